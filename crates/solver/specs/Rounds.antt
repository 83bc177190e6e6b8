-- Runs as the code goes through them: rounds cut from a list of syndromes, and where the walk is.
--
--   cut_rounds s ns        the rounds of lengths ns, cut from s one after the other; a round takes what is left
--   Here f s ns n p k i    after n events of the run over these rounds it is at p; i rounds have been entered, with
--                          k syndromes
--
-- Proved: every list of rounds is cut from its joined syndromes (cut-joined); the walk's start, an iteration, an entry,
-- and its two ends.
use Prim.Native.Nat.{ℕ, suc, ◌+◌, ◌-◌, ◌≤◌, ◌<◌, min}
use Rattle.std.specs.Prelude.{◌≡◌, refl, drop}
use Rattle.std.proofs.Math.Path.{sym, ap, ap₂}
use Rattle.std.proofs.Common.{◌∙◌, add-one, length-take, length-drop, take-append-drop, drop_of_length-le, drop_at}
use Rattle.std.proofs.Common.{drop-cons, take-add, drop-drop}
use mathlib.Core.List.{List, [], ◌∷◌, ◌++◌, map, append_assoc, append-nil}
use Rattle.std.proofs.Math.Decide.{dec_le}
use Rattle.std.proofs.Math.Nat.{min-eq_left, min-eq_right, min-le_right}
use native.Mathlib.Omega.{arith}
use Rattle.std.proofs.Math.ListN.{length, get_or, take, replicate, length-append}
use Rattle.std.proofs.Math.Seq.{take_at, take_all, take-length, drop-length}
use Rattle.field.specs.Field.{F}
use Rattle.key_equation.specs.Run.{Form, At, Event, entering, iteration, joined, events, outset, happen, after, run}
use Rattle.key_equation.specs.Ends.{after-append}

unfoldable pub cut_rounds : List F → List ℕ → List (List F)
cut_rounds s [] = []
cut_rounds s (n ∷ ns) = take n s ∷ cut_rounds (drop n s) ns

pub length_cut : (s : List F) (ns : List ℕ) → length (joined (cut_rounds s ns)) ≤ length s
unfolding cut_rounds joined
length_cut s [] = omega arith
length_cut s (n ∷ ns) =
    omega (
      arith,
      length-append (take n s) (joined (cut_rounds (drop n s) ns)),
      length_cut (drop n s) ns,
      length-append (take n s) (drop n s),
      ap length (take-append-drop n s),
    )

pub cut-joined : (rounds : List (List F)) → cut_rounds (joined rounds) (map length rounds) ≡ rounds
unfolding cut_rounds joined
cut-joined [] = refl
cut-joined (round ∷ rest) =
    ap₂ ◌∷◌ (take_at round (joined rest) (length round) refl)
    (ap (λ (s : List F). cut_rounds s (map length rest)) (drop_at round (joined rest) (length round) refl)
    ∙ cut-joined rest)

pub record Here (f : Form) (s : List F) (ns : List ℕ) (n : ℕ) (p : At f) (known : ℕ) (i : ℕ) : Type 0 where
  pub done : List Event
  pub count : length done ≡ n
  pub at : after f done (outset f) ≡ p
  pub known_is : p.known ≡ take known s
  pub fits : known ≤ length s
  pub left : p.r ≤ known
  pub ahead : events (cut_rounds s ns)
      ≡ done ++ (replicate (known - p.r) iteration ++ events (cut_rounds (drop known s) (drop i ns)))

-- counts past the end
take_min : (n : ℕ) (s : List F) → take n s ≡ take (min n (length s)) s
take_min n s = go (dec_le n (length s))
  where
    go : Dec (n ≤ length s) → take n s ≡ take (min n (length s)) s
    go (yes h) = rw (min-eq_left h) refl
    go (no h) = let l : length s ≤ n = omega arith in rw (min-eq_right l) (take_all n s l ∙ sym (take-length s))

drop_min : (n : ℕ) (s : List F) → drop n s ≡ drop (min n (length s)) s
drop_min n s = go (dec_le n (length s))
  where
    go : Dec (n ≤ length s) → drop n s ≡ drop (min n (length s)) s
    go (yes h) = rw (min-eq_left h) refl
    go (no h) = let l : length s ≤ n = omega arith in rw (min-eq_right l) (drop_of_length-le s l ∙ sym (drop-length s))

module _ (f : Form) (s : List F) (ns : List ℕ) where
  pub here-start : Here f s ns 0 (outset f) 0 0
  unfolding after
  here-start = record {
    done = [];
    count = refl;
    at = refl;
    known_is = refl;
    fits = omega arith;
    left = omega arith;
    ahead = refl;
  }

  -- the run after n events is where the walk is
  pub here-run : (n : ℕ) (p : At f) (known i : ℕ) → Here f s ns n p known i → run f (cut_rounds s ns) n ≡ p
  unfolding run
  here-run n p known i h = ap (λ (es : List Event). after f es (outset f))
      (ap (take n) h.ahead ∙ take_at h.done _ n h.count) ∙ h.at

  -- an event more
  step : (n : ℕ) (p : At f) (known i : ℕ) (h : Here f s ns n p known i) (e : Event)
      → (length (h.done ++ (e ∷ [])) ≡ n + 1) × (after f (h.done ++ (e ∷ [])) (outset f) ≡ happen f e p)
  unfolding after
  step n p known i h e = (
    length-append h.done (e ∷ []) ∙ ap (λ (k : ℕ). k + 1) h.count,
    after-append f h.done (e ∷ []) (outset f) ∙ ap (happen f e) h.at,
  )

  pub here-iterate : (n : ℕ) (p : At f) (known i : ℕ) (h : Here f s ns n p known i) → p.r < known
      → Here f s ns (n + 1) (happen f iteration p) known i
  here-iterate n p known i h l =
      let m : ℕ = known - suc p.r in
      let e : known - p.r ≡ suc m = omega arith in
      let rest : List Event = replicate m iteration ++ events (cut_rounds (drop known s) (drop i ns)) in
      let more = step n p known i h iteration in
      record {
        done = h.done ++ (iteration ∷ []);
        count = more.0;
        at = more.1;
        known_is = h.known_is;
        fits = h.fits;
        left = l;
        ahead = rw e at h.ahead ∙ sym (append_assoc h.done (iteration ∷ []) rest);
      }

  pub here-enter : (n : ℕ) (p : At f) (known i : ℕ) (h : Here f s ns n p known i) → p.r ≡ known → i < length ns
      → Here f s ns (n + 1) (happen f (entering (take (get_or ns i 0) (drop known s))) p)
      (min (known + get_or ns i 0) (length s)) (i + 1)
  unfolding cut_rounds events
  here-enter n p known i h e l =
      let k : ℕ = get_or ns i 0 in
      let next : ℕ = min (known + k) (length s) in
      let round : List F = take k (drop known s) in
      let known_is : p.known ++ round ≡ take next s = ap (λ (t : List F). t ++ round) h.known_is
      ∙ sym (take-add known k s) ∙ take_min _ s in
      let long : length round ≡ next - p.r = simp (length-take, length-drop) (omega arith) in
      let rest : List Event =
      replicate (next - p.r) iteration ++ events (cut_rounds (drop next s) (drop (i + 1) ns)) in
      let now : known - p.r ≡ 0 = omega arith in
      let opened : events (cut_rounds (drop known s) (drop i ns)) ≡ entering round ∷ rest =
      ap (λ (l : List ℕ). events (cut_rounds (drop known s) l)) (drop-cons ns i 0 l)
      ∙ ap₂ (λ (m : ℕ) (t : List F).
      entering round ∷ (replicate m iteration ++ events (cut_rounds t (drop (suc i) ns)))) long
      (drop-drop k known s ∙ drop_min (known + k) s)
      ∙ ap (λ (m : ℕ). entering round
      ∷ (replicate (next - p.r) iteration ++ events (cut_rounds (drop next s) (drop m ns)))) (sym (add-one i)) in
      let more = step n p known i h (entering round) in
      record {
        done = h.done ++ (entering round ∷ []);
        count = more.0;
        at = more.1;
        known_is = known_is;
        fits = min-le_right _ _;
        left = omega (arith, h.fits);
        ahead =
            h.ahead
            ∙ ap (λ (m : ℕ). h.done ++ (replicate m iteration ++ events (cut_rounds (drop known s) (drop i ns)))) now
            ∙ ap (λ (es : List Event). h.done ++ es) opened
            ∙ sym (append_assoc h.done (entering round ∷ []) rest);
      }

  -- nothing is left
  pub here_end : (n : ℕ) (p : At f) (known i : ℕ) (h : Here f s ns n p known i) → p.r ≡ known → length ns ≤ i
      → (k : ℕ) → n ≤ k → run f (cut_rounds s ns) k ≡ p
  unfolding run cut_rounds events
  here_end n p known i h e l k q =
      let none : events (cut_rounds s ns) ≡ h.done =
      let now : known - p.r ≡ 0 = omega arith in
      h.ahead
      ∙ ap₂ (λ (m : ℕ) (l : List ℕ). h.done ++ (replicate m iteration ++ events (cut_rounds (drop known s) l))) now
      (drop_of_length-le ns l)
      ∙ append-nil h.done in
      ap (λ (es : List Event). after f es (outset f))
      (ap (take k) none ∙ take_all k h.done (omega (arith, h.count))) ∙ h.at
