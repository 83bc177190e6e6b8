-- A card is read and its list is written, section after section.
--
-- Proved: it begins where the streams are opened (reached_open), and the list is written where all is printed
-- (reached_lists). From section to section it goes on: a read failed (unread_reached), the section was judged and its
-- line was written (line_reached), or the line was not written (unwritten_reached); and the end comes nearer
-- (over-falls).
use Rattle.std.specs.Prelude.{ℕ, ◌+◌, ◌-◌, ◌≤◌, ◌<◌, ◌≡◌, refl, Bool, true, false, cond, List, [], ◌++◌, length, take}
use Rattle.std.specs.Prelude.{drop}
use Rattle.std.proofs.Common.{sym, ap, ◌∙◌, subst, true≢false, append-nil, append_assoc, arith, take-append-drop}
use Rattle.std.proofs.Common.{length-take-le, take_all, take_at, drop_at, drop-drop}
use Rattle.std.proofs.Math.Logic.{by_cases}
use Rattle.std.proofs.Math.Decide.{dec_lt}
use Rattle.std.proofs.Math.Seq.{drop-length, drop-nil}
use Rattle.stream.specs.declared.Stream.{Stream}
use Rattle.stream.specs.Definition.{Opened, Reads, Writes}
use Rattle.card.specs.declared.section.Section.{Section}
use Rattle.card.specs.declared.section.Section.TheVariants.{Size, Bytes, Count, Block, End, Over}
use Rattle.card.specs.declared.section.Judged.{Judged}
use Rattle.card.specs.SectionDefinition.{good, size, wanted, ends, over, left, silent, refusal}
use Rattle.card.specs.SectionLaws.{good-known}
use Rattle.card.specs.PrintedDefinition.{printed}
use Rattle.card.specs.PrintedStep.{cut, step, rest, Judges}
use Rattle.card.specs.PrintedFalls.{some_left}
use Rattle.card.specs.PrintedWhole.{step_cut}
use Rattle.card.specs.ListDefinition.{Rest, Lists, Reached}

pub reached_open : (x : Stream) → Opened x → Reached Size x
reached_open x h = record {
  card = [];
  text = [];
  trace = h.trace;
  good = refl;
  goes = λ _. (h.ended, h.unread, h.unwritten);
  whole = λ _ _ d _. refl;
  start = λ d _. (printed d, refl);
}

-- nothing is left to be printed
over-rest : (s : Section) (d : List ℕ) → over s ≡ true → rest s d ≡ []
over-rest Size d v = absurd (true≢false (sym v))
over-rest (Bytes n) d v = absurd (true≢false (sym v))
over-rest (Count p) d v = absurd (true≢false (sym v))
over-rest (Block p i k) d v = absurd (true≢false (sym v))
over-rest End d v = absurd (true≢false (sym v))
over-rest Over d v = refl

pub reached_lists : (s : Section) (x : Stream) → Reached s x → over s ≡ true → Lists x
reached_lists s x h v = record {
  card = h.card;
  text = h.text;
  trace = h.trace;
  whole = λ f g d r. sym (append-nil h.text)
      ∙ ap (λ (u : List ℕ). h.text ++ u) (sym (over-rest s d v))
      ∙ h.whole f g d r;
  start = h.start;
}

pub over-falls : (s : Section) → over s ≡ false → left Over < left s
over-falls s v = some_left s v

-- where a section was cut, all is printed
cut-over : (s : Section) → over (cut s).next ≡ true
cut-over s = go (ends s)
  where
    go : (b : Bool) → over (cond b (silent Over) (refusal 11)).next ≡ true
    go true = refl
    go false = refl

drop_past : (w : ℕ) (l : List ℕ) → length l ≤ w → drop w l ≡ []
drop_past w l m =
    let k : length l + (w - length l) ≡ w = omega arith in
    ap (λ (j : ℕ). drop j l) (sym k)
    ∙ sym (drop-drop (w - length l) (length l) l)
    ∙ ap (drop (w - length l)) (drop-length l)
    ∙ drop-nil (w - length l)

-- the bytes y of a section of w bytes, and the rest d of the card
front : (w : ℕ) (y d : List ℕ) → length y ≤ w → (length y < w → d ≡ []) → (y ≡ take w (y ++ d)) × (drop w (y ++ d) ≡ d)
front w y d m z =
    by_cases (dec_lt (length y) w)
    (λ l. subst (λ (d : List ℕ). (y ≡ take w (y ++ d)) × (drop w (y ++ d) ≡ d)) (sym (z l)) (none l))
    (λ l. let e : length y ≡ w = omega arith in (sym (take_at y d w e), drop_at y d w e))
  where
    none : length y < w → (y ≡ take w (y ++ [])) × (drop w (y ++ []) ≡ [])
    none l = subst (λ (q : List ℕ). (y ≡ take w q) × (drop w q ≡ [])) (sym (append-nil y))
        (sym (take_all w y (omega arith)), drop_past w y (omega arith))

-- the section s comes next where the streams are x, and its bytes are read into the array b: n of them, so that the
-- streams are y
module _ (s : Section) (x y : Stream) (b : List ℕ) (n : ℕ) (h : Reached s x) (v : over s ≡ false)
    (e : length b ≡ size s) (g : Reads (length b) x b n y) where
  open-rest : (d : List ℕ) → Rest x d
  open-rest d f = absurd (true≢false (sym f ∙ (h.goes v).0))

  pub unread_reached : y.unread ≡ true → Reached Over y
  unread_reached f = record {
    card = h.card ++ take n b;
    text = h.text;
    trace = g.trace h.card h.text h.trace;
    good = refl;
    goes = λ w. absurd (true≢false w);
    whole = λ w. absurd (true≢false (sym f ∙ w));
    start = λ d _.
        let (u, j) = h.start (take n b ++ d) (open-rest (take n b ++ d)) in
        (u, j ∙ ap printed (sym (append_assoc h.card (take n b) d)));
  }

  -- and they are judged: t is handed back, and m is the line
  module _ (l m : List ℕ) (t : Judged) (k : n ≤ length b) (j : Judges s (take n b) l t m) where
    abbrev line : List ℕ
    line = take t.size m

    want : wanted s ≡ length b
    want = ap size (good-known s h.good) ∙ sym e

    came : length (take n b) ≡ n
    came = length-take-le n b k

    -- with the line, and with what is to be printed then, it is the list
    pending : y.unread ≡ false → (d : List ℕ) → Rest y d
        → h.text ++ (line ++ rest t.next d) ≡ printed ((h.card ++ take n b) ++ d)
    pending f d r =
        let (u, z) = front (wanted s) (take n b) d (omega (arith, want, came))
        (λ q. r (g.marks.short (omega (arith, want, came)) f)) in
        let (_, read, written) = h.goes v in
        let says = j.says (take n b ++ d) u ∙ ap (λ (q : List ℕ). line ++ rest t.next q) z in
        ap (λ (q : List ℕ). h.text ++ q) (sym says)
        ∙ h.whole read written (take n b ++ d) (open-rest (take n b ++ d))
        ∙ ap printed (sym (append_assoc h.card (take n b) d))

    -- the end of the card was met where all is printed
    ended-over : over t.next ≡ false → y.ended ≡ false
    ended-over o =
        by_cases (dec_lt n (length b))
        (λ q. absurd (true≢false (sym (short q) ∙ o)))
        (λ q. (g.marks.enough (omega arith)).ended ∙ (h.goes v).0)
      where
        short : n < length b → over t.next ≡ true
        short q = ap over (j.takes.next
            ∙ ap (λ (s : Section). (step s (take n b)).next) (good-known s h.good)
            ∙ ap (λ x. x.next) (sym (step_cut s (take n b) (omega (arith, came, e)))))
            ∙ cut-over s

    pub line_reached : (z : Stream) → y.unread ≡ false → Writes y line z → z.unwritten ≡ false → good t.next ≡ true
        → Reached t.next z
    line_reached z f w o a = record {
      card = h.card ++ take n b;
      text = h.text ++ line;
      trace = w.whole o _ _ (g.trace h.card h.text h.trace);
      good = a;
      goes = λ q. (w.ended ∙ ended-over q, w.unread ∙ f, o);
      whole = λ _ _. says;
      start = λ d r. (rest t.next d, says d r);
    }
      where
        says : (d : List ℕ) → Rest z d
            → (h.text ++ line) ++ rest t.next d ≡ printed ((h.card ++ take n b) ++ d)
        says d r = append_assoc h.text line (rest t.next d) ∙ pending f d (λ q. r (w.ended ∙ q))

    pub unwritten_reached : (z : Stream) → y.unread ≡ false → Writes y line z → z.unwritten ≡ true → Reached Over z
    unwritten_reached z f w o = record {
      card = h.card ++ take n b;
      text = h.text ++ take i line;
      trace = w.part.1 _ _ (g.trace h.card h.text h.trace);
      good = refl;
      goes = λ q. absurd (true≢false q);
      whole = λ _ q. absurd (true≢false (sym o ∙ q));
      start = λ d r. (drop i line ++ rest t.next d, says d r);
    }
      where
        i : ℕ
        i = w.part.0

        says : (d : List ℕ) → Rest z d
            → (h.text ++ take i line) ++ (drop i line ++ rest t.next d) ≡ printed ((h.card ++ take n b) ++ d)
        says d r = append_assoc h.text (take i line) (drop i line ++ rest t.next d)
            ∙ ap (λ (q : List ℕ). h.text ++ q)
            (sym (append_assoc (take i line) (drop i line) (rest t.next d))
            ∙ ap (λ (q : List ℕ). q ++ rest t.next d) (take-append-drop i line))
            ∙ pending f d (λ q. r (w.ended ∙ q))
