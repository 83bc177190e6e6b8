-- Lines and states in arrays, and the progress that they show.
--
-- Proved: what stands at a place (has, has_same, has_other), and in a list made element after element (map_more,
-- map_each); eight lines at their start (started); what lines say (says_at, says_past) and states show (shown_at,
-- shown_past, pending_at), after a store too (shown-set, put_stay); what lines say is added up line by line (sum-none,
-- sum_more), the bits of a line being few (bits-few).
use Rattle.std.specs.Prelude.{ℕ, zero, suc, ◌+◌, ◌*◌, ◌≤◌, ◌<◌, ◌≡◌, refl, ◌≢◌, false, List, [], ◌∷◌, map, length}
use Rattle.std.specs.Prelude.{get_or, set, replicate}
use Rattle.std.proofs.Common.{sym, ap, ap₂, ◌∙◌, subst, arith, length-set, get_or-set_other}
use Rattle.std.proofs.Math.Path.{fun_ext}
use Rattle.std.proofs.Math.Option.{none}
use Rattle.std.proofs.Math.Decide.{dec_lt, ℕ_discrete}
use Rattle.std.proofs.lemmas.List.{length-map, length-replicate, get_or-replicate}
use Rattle.std.proofs.Math.ListN.{get_or-map, get_or-eq_default}
use Rattle.std.proofs.Math.Seq.{get_or-set_same}
use Rattle.extend.specs.LagrangeDefinition.{flag}
use Rattle.solver.specs.declared.Form.{Form}
use Rattle.solver.specs.declared.Solver.{Solver}
use Rattle.solver.specs.Solver.{form_of, Is}
use Rattle.solver.specs.ContinuationDefinition.{Ended, ended-start}
use Rattle.staged_decoding.specs.Definition as staged
use Rattle.staged_decoding.specs.Definition.{put, total}
use Rattle.staged_decoding.specs.Count.{total-none, total-more}
use Rattle.staged_decoding.specs.Stage.{put_same, put_other}
use Rattle.stages.specs.declared.report.Line.{Line}
use Rattle.stages.specs.Report.{said, says, Has, Started, Counted}
use Rattle.stages.specs.declared.subword.State.{State}
use Rattle.stages.specs.View.{shown, pending?, lines_of}

-- ---- places of a list

-- where something stands, what would stand past the end does not matter
pub any_default : {A : Type 0} (l : List A) (i : ℕ) (d e : A) → i < length l → get_or l i d ≡ get_or l i e
any_default [] i d e h = absurd (omega arith)
any_default (x ∷ l) zero d e h = refl
any_default (x ∷ l) (suc i) d e h = any_default l i d e (omega arith)

pub has : {A : Type 0} (xs : List A) (i : ℕ) (d : A) → i < length xs → Has xs i (get_or xs i d)
has xs i d h = (h, λ e. any_default xs i e d h)

pub has_same : {A : Type 0} (xs : List A) (i : ℕ) (x y : A) → i < length xs → Has (set xs i x) i y → y ≡ x
has_same xs i x y h (_, is) = sym (is x) ∙ get_or-set_same xs i x x h

pub has_other : {A : Type 0} (xs : List A) (i k : ℕ) (x y : A) → k ≢ i → Has (set xs i x) k y → Has xs k y
has_other xs i k x y n (h, is) =
    (omega (arith, length-set xs i x), λ d. sym (get_or-set_other xs i k x d n) ∙ is d)

-- a list made element after element
pub map_each : {A B : Type 0} (f : A → B) (xs : List A) (ys : List B) → length xs ≡ length ys
    → ((i : ℕ) (d : A) (e : B) → i < length ys → get_or ys i e ≡ f (get_or xs i d)) → ys ≡ map f xs
map_each f [] [] long each = refl
map_each f [] (y ∷ ys) long each = absurd (omega arith)
map_each f (x ∷ xs) [] long each = absurd (omega arith)
map_each f (x ∷ xs) (y ∷ ys) long each =
    ap₂ ◌∷◌ (each 0 x y (omega arith)) (map_each f xs ys (omega arith) (λ i d e h. each (suc i) d e (omega arith)))

pub map_more : {A B : Type 0} (f : A → B) (xs : List A) (ys : List B) (i : ℕ) (y : B) (a : A)
    → i < length xs → i < length ys → y ≡ f (get_or xs i a)
    → ((j : ℕ) (d : A) (e : B) → j < i → get_or ys j e ≡ f (get_or xs j d))
    → (j : ℕ) (d : A) (e : B) → j < i + 1 → get_or (set ys i y) j e ≡ f (get_or xs j d)
map_more f xs ys i y a there room is before j d e h = go (ℕ_discrete j i)
  where
    go : Dec (j ≡ i) → get_or (set ys i y) j e ≡ f (get_or xs j d)
    go (yes q) = rw q (get_or-set_same ys i y e room ∙ is ∙ ap f (any_default xs i a d there))
    go (no n) = get_or-set_other ys i j y e n ∙ before j d e (omega (arith, n))

-- ---- what lines say

pub says_at : (lines : List Line) (i : ℕ) (l : Line) → Has lines i l → says lines i ≡ said l
unfolding says
says_at lines i l (h, is) =
    any_default (map said lines) i staged.clean_line (said l) (omega (arith, length-map lines said))
    ∙ get_or-map said lines i l
    ∙ ap said (is l)

pub says_past : (lines : List Line) (i : ℕ) → length lines ≤ i → says lines i ≡ staged.clean_line
unfolding says
says_past lines i h =
    get_or-eq_default (map said lines) staged.clean_line (omega (arith, length-map lines said))

pub started : (f : Form) (s : Solver) (l : Line) → Is f 0 s (form_of f).start → said l ≡ staged.clean_line
    → l.solver ≡ s → Started f (replicate 8 l)
started f s l h blank kept = record {
  long = length-replicate 8 l;
  solvers = λ i x (m, is). subst (λ (x : Line). Ended f [] x.solver)
      (sym (get_or-replicate 8 i l x (omega (arith, m, length-replicate 8 l))) ∙ is x) (rw kept (ended-start f s h));
  says = λ i. all i (dec_lt i 8);
}
  where
    all : (i : ℕ) → Dec (i < 8) → says (replicate 8 l) i ≡ staged.clean_line
    all i (yes h) =
        says_at (replicate 8 l) i l (omega (arith, length-replicate 8 l), λ d. get_or-replicate 8 i l d h) ∙ blank
    all i (no h) = says_past (replicate 8 l) i (omega (arith, length-replicate 8 l))

-- ---- what states show

pub shown_at : (states : List State) (i : ℕ) (s : State) → Has states i s → lines_of states i ≡ shown s
unfolding lines_of
shown_at states i s (h, is) =
    any_default (map shown states) i none (shown s) (omega (arith, length-map states shown))
    ∙ get_or-map shown states i s
    ∙ ap shown (is s)

pub shown_past : (states : List State) (i : ℕ) → length states ≤ i → lines_of states i ≡ none
unfolding lines_of
shown_past states i h = get_or-eq_default (map shown states) none (omega (arith, length-map states shown))

pub pending_at : (states : List State) (i : ℕ) (s : State) → Has states i s → flag (map pending? states) i ≡ pending? s
pending_at states i s (h, is) =
    any_default (map pending? states) i false (pending? s) (omega (arith, length-map states pending?))
    ∙ get_or-map pending? states i s
    ∙ ap pending? (is s)

-- after a store
pub shown-set : (states : List State) (k : ℕ) (s : State) → k < length states
    → lines_of (set states k s) ≡ put k (shown s) (lines_of states)
shown-set states k s h = fun_ext (λ i. go i (ℕ_discrete i k) (dec_lt i (length states)))
  where
    long : length (set states k s) ≡ length states
    long = length-set states k s

    go : (i : ℕ) → Dec (i ≡ k) → Dec (i < length states)
        → lines_of (set states k s) i ≡ put k (shown s) (lines_of states) i
    go i (yes e) m =
        rw e (shown_at (set states k s) k s (omega (arith, long), λ d. get_or-set_same states k s d h)
        ∙ sym (put_same k _ (lines_of states)))
    go i (no n) (yes m) =
        shown_at (set states k s) i (get_or states i s)
        (omega (arith, long), λ d. get_or-set_other states k i s d n ∙ any_default states i d s m)
        ∙ sym (shown_at states i (get_or states i s) (has states i s m))
        ∙ sym (put_other k _ (lines_of states) i n)
    go i (no n) (no m) =
        shown_past (set states k s) i (omega (arith, long))
        ∙ sym (shown_past states i (omega arith))
        ∙ sym (put_other k _ (lines_of states) i n)

pub put_stay : {A : Type 0} (k : ℕ) (x : A) (f : ℕ → A) → f k ≡ x → put k x f ≡ f
put_stay k x f e = fun_ext (λ i. go i (ℕ_discrete i k))
  where
    go : (i : ℕ) → Dec (i ≡ k) → put k x f i ≡ f i
    go i (yes q) = rw q (put_same k x f ∙ sym e)
    go i (no n) = put_other k x f i n

-- ---- sums

pub bits-few : (lines : List Line) (m i sum : ℕ) (d : Line) → Counted m lines → i < m → i < length lines
    → sum ≤ 2040 * i → sum + (get_or lines i d).bits ≤ 2040 * (i + 1)
bits-few lines m i sum d few l h low =
    let is = ap (λ (l : staged.Line). l.bits) (says_at lines i (get_or lines i d) (has lines i d h)) in
    omega (arith, is, few i l)

-- f is what is added up
module _ (f : staged.Line → ℕ) (lines : List Line) where
  pub sum-none : 0 ≡ total 0 (λ i. f (says lines i))
  sum-none = sym (total-none _)

  pub sum_more : (sum i n : ℕ) (d : Line) → i < length lines → sum ≡ total i (λ i. f (says lines i))
      → n ≡ f (said (get_or lines i d)) → sum + n ≡ total (i + 1) (λ i. f (says lines i))
  sum_more sum i n d h e q =
      ap₂ ◌+◌ e (q ∙ ap f (sym (says_at lines i (get_or lines i d) (has lines i d h)))) ∙ sym (total-more i _)
