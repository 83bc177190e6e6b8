-- What the calls do to the streams.
--
-- Proved: a read of some bytes leaves the streams as they are (after-some), and one of none marks that a read failed
-- (after-failed) or that the input has ended (after-ended); a read is marked after its bytes are added (reads-one), and
-- why a call failed may be told before they are (told_took, told_gave). An array is filled read by read (took-none,
-- fill_more), until nothing comes (fill_none) or it is full (fill-all), and a text is written write by write
-- (gave-none, write-more), until nothing is taken (write-none) or all is (write-whole).
use Rattle.std.specs.Prelude.{◌≡◌, ℕ, ◌+◌, ◌-◌, ◌<◌, ◌≤◌, true, List, [], ◌++◌, length, take, drop, refl}
use Rattle.std.proofs.Common.{sym, ap, ◌∙◌, subst, true≢false, append-nil, append_assoc, arith, length-drop}
use Rattle.std.proofs.Common.{length-take-le, take_all, take-take, take-add, take_at}
use Rattle.std.proofs.lemmas.List.{take-append-le}
use Rattle.std.proofs.Math.Seq.{take-append-add}
use Rattle.stream.specs.declared.Stream.{Stream}
use Rattle.stream.specs.Trace.{Trace, trace-same}
use Rattle.stream.specs.Definition.{Stands, Still, Took, Gave, Marks, Reads, Lost, Writes}

pub stands_self : (s : Stream) → Stands s s
stands_self s = record { ended = refl; unread = refl; unwritten = refl }

pub stands_then : {s t r : Stream} → Stands s t → Stands t r → Stands s r
stands_then h g = record {
  ended = g.ended ∙ h.ended;
  unread = g.unread ∙ h.unread;
  unwritten = g.unwritten ∙ h.unwritten;
}

module _ (s : Stream) (n : ℕ) where
  pub after-some : 0 < n → Marks 1 s n s × Still s s
  after-some h = (
    record {
      enough = λ _. stands_self s;
      short = λ l _. absurd (omega arith);
      failed = λ _ _. refl;
      unwritten = refl;
    },
    λ c o t. t,
  )

  pub after-failed : (r : Stream) → r.taken ≡ s.taken → r.given ≡ s.given → r.ended ≡ s.ended
      → r.unread ≡ true → r.unwritten ≡ s.unwritten → n ≤ 0 → Marks 1 s n r × Still s r
  after-failed r t g e u w h = (
    record {
      enough = λ l. absurd (omega arith);
      short = λ _ f. absurd (true≢false (sym u ∙ f));
      failed = λ _ _. e;
      unwritten = w;
    },
    λ c o. trace-same s r c o t g,
  )

  pub after-ended : (r : Stream) → r.taken ≡ s.taken → r.given ≡ s.given → r.ended ≡ true
      → r.unread ≡ s.unread → r.unwritten ≡ s.unwritten → n ≤ 0 → Marks 1 s n r × Still s r
  after-ended r t g e u w h = (
    record {
      enough = λ l. absurd (omega arith);
      short = λ _ _. e;
      failed = λ f g. absurd (true≢false (sym g ∙ u ∙ f));
      unwritten = w;
    },
    λ c o. trace-same s r c o t g,
  )

-- why a call failed is told before its bytes are added
module _ (s t r : Stream) (l : List ℕ) (h : Stands s t) (g : Still s t) where
  pub told_took : Took t l r → Took s l r
  told_took k = record {
    stands = stands_then h k.stands;
    trace = λ c o w. k.trace c o (g c o w);
  }

  pub told_gave : Gave t l r → Gave s l r
  told_gave k = record {
    stands = stands_then h k.stands;
    trace = λ c o w. k.trace c o (g c o w);
  }

-- ---- reads

pub took-none : (s : Stream) → Took s [] s
took-none s = record {
  stands = stands_self s;
  trace = λ c o w. subst (λ (q : List ℕ). Trace s q o) (sym (append-nil c)) w;
}

pub reads-one : (s t r : Stream) (y : List ℕ) (n : ℕ) → Took s (take n y) t → Marks 1 t n r × Still t r
    → Reads 1 s y n r
reads-one s t r y n h (m, g) = record {
  marks = record {
    enough = λ l. stands_then h.stands (m.enough l);
    short = m.short;
    failed = λ f u. m.failed (h.stands.unread ∙ f) u ∙ h.stands.ended;
    unwritten = m.unwritten ∙ h.stands.unwritten;
  };
  trace = λ c o w. g _ _ (h.trace c o w);
}

-- the part of an array b from `at` on
pub part_length : (b : List ℕ) (at : ℕ) → length (take (length b - at) (drop at b)) ≡ length b - at
part_length b at = length-take-le (length b - at) (drop at b) (omega (arith, length-drop at b))

-- as many bytes are there as in the array b
pub counted : (b d : List ℕ) (at : ℕ) → length d ≡ length b → at ≤ length b
    → (at ≤ length d) × (at ≡ length (take at d))
counted b d at e l =
    let m : at ≤ length d = omega arith in
    (m, sym (length-take-le at d m))

-- after the bytes before `at`, of an array b, a read brings n more: the part of the array from there on is y, and z is
-- what follows it
module _ (s x r : Stream) (b y z : List ℕ) (at n : ℕ) (h : Took s (take at b) x) (l : at ≤ length b)
    (g : Reads 1 x y n r) where
  front : length (take at b) ≡ at
  front = length-take-le at b l

  joined : n ≤ length y → take (at + n) (take at b ++ (y ++ z)) ≡ take at b ++ take n y
  joined m = ap (λ (k : ℕ). take (k + n) (take at b ++ (y ++ z))) (sym front)
      ∙ take-append-add (take at b) (y ++ z) n
      ∙ ap (λ (q : List ℕ). take at b ++ q) (take-append-le n y z m)

  pub fill_more : 1 ≤ n → n ≤ length y → Took s (take (at + n) (take at b ++ (y ++ z))) r
  fill_more k m = record {
    stands = stands_then h.stands (g.marks.enough k);
    trace = λ c o w.
        subst (λ (q : List ℕ). Trace r q o)
        (append_assoc c (take at b) (take n y) ∙ ap (λ (q : List ℕ). c ++ q) (sym (joined m)))
        (g.trace _ o (h.trace c o w));
  }

  pub fill_none : n ≡ 0 → (k : ℕ) → at < k → Reads k s (take at b ++ (y ++ z)) at r
  fill_none e k m = record {
    marks = record {
      enough = λ j. absurd (omega arith);
      short = λ _. g.marks.short (omega arith);
      failed = λ f u. g.marks.failed (h.stands.unread ∙ f) u ∙ h.stands.ended;
      unwritten = g.marks.unwritten ∙ h.stands.unwritten;
    };
    trace = λ c o w.
        subst (λ (q : List ℕ). Trace r q o)
        (ap (λ (j : ℕ). (c ++ take at b) ++ take j y) e
        ∙ append-nil (c ++ take at b)
        ∙ ap (λ (q : List ℕ). c ++ q) (sym (take_at (take at b) (y ++ z) at front)))
        (g.trace _ o (h.trace c o w));
  }

pub fill-all : (s x : Stream) (b : List ℕ) (at : ℕ) → Took s (take at b) x → length b ≤ at → Reads (length b) s b at x
fill-all s x b at h l = record {
  marks = record {
    enough = λ _. h.stands;
    short = λ m _. absurd (omega arith);
    failed = λ _ _. h.stands.ended;
    unwritten = h.stands.unwritten;
  };
  trace = h.trace;
}

-- ---- writes

pub gave-none : (s : Stream) → Gave s [] s
gave-none s = record {
  stands = stands_self s;
  trace = λ c o w. subst (λ (q : List ℕ). Trace s c q) (sym (append-nil o)) w;
}

-- after the bytes before `at`, of a text l, a write takes n more of the k that are left
module _ (s x r : Stream) (l : List ℕ) (at n k : ℕ) (h : Gave s (take at l) x)
    (g : Gave x (take n (take k (drop at l))) r) where
  pub write-more : n ≤ k → Gave s (take (at + n) l) r
  write-more m = record {
    stands = stands_then h.stands g.stands;
    trace = λ c o w.
        subst (λ (q : List ℕ). Trace r c q)
        (append_assoc o (take at l) (take n (take k (drop at l)))
        ∙ ap (λ (q : List ℕ). o ++ (take at l ++ q)) (take-take n k (drop at l) m)
        ∙ ap (λ (q : List ℕ). o ++ q) (sym (take-add at n l)))
        (g.trace c _ (h.trace c o w));
  }

  pub write-none : (e : Stream) → n ≡ 0 → Lost r e → Writes s l e
  write-none e z j = record {
    ended = j.ended ∙ g.stands.ended ∙ h.stands.ended;
    unread = j.unread ∙ g.stands.unread ∙ h.stands.unread;
    whole = λ f. absurd (true≢false (sym j.unwritten ∙ f));
    part = (
      at,
      λ c o w.
          subst (λ (q : List ℕ). Trace e c q)
          (ap (λ (i : ℕ). (o ++ take at l) ++ take i (take k (drop at l))) z ∙ append-nil (o ++ take at l))
          (j.trace c _ (g.trace c _ (h.trace c o w))),
    );
  }

pub write-whole : (s x : Stream) (l : List ℕ) (at : ℕ) → Gave s (take at l) x → length l ≤ at → Writes s l x
write-whole s x l at h m = record {
  ended = h.stands.ended;
  unread = h.stands.unread;
  whole = λ _ c o w. subst (λ (q : List ℕ). Trace x c (o ++ q)) (take_all at l m) (h.trace c o w);
  part = (at, h.trace);
}
