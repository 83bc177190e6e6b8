-- The value of a word by Horner's rule, from the last symbol on.
--
--   Horner word w i v   v is the value at w of the word divided by z^i, what stands below dropped
--
--   Front word l      the word begins with the list l
--
-- A loop keeps them, whichever way its products go, l being what it has not come to yet: it begins with horner-none and
-- front-all, goes on by horner-more and front-less, and ends by horner-all.
use Rattle.std.specs.Prelude.{ℕ, ◌-◌, ◌≤◌, ◌<◌, ◌≡◌, List, [], ◌∷◌, ◌++◌, length, get_or}
use Rattle.std.specs.List.{push}
use Rattle.std.proofs.Common.{sym, ap, ap₂, ◌∙◌, append-nil, append_assoc, arith}
use Rattle.std.proofs.Math.Nat.{sub-zero}
use Rattle.std.proofs.Math.Seq.{get_or-append_seam}
use Rattle.std.proofs.lemmas.List.{length_push}
use Rattle.std.specs.Int.Bits.{bit_xor}
use Rattle.field.specs.Field.{F, ◌⊕◌, ◌⊙◌, of, of_zero, of_xor}
use Rattle.series.specs.Shift.{drop, drop-none}
use Rattle.series.specs.Value.{value, value_none, value-horner}
use Rattle.series.specs.Array.{bytes, read_at}

pub record Horner (word : List ℕ) (w : F) (i v : ℕ) : Type 0 where
  pub most : i ≤ length word
  pub is : of v ≡ value (length word - i) (drop i (bytes word)) w

pub horner-none : (word : List ℕ) (w : F) → Horner word w (length word) 0
horner-none word w =
    let e : length word - length word ≡ 0 = omega arith in
    record {
      most = omega arith;
      is = of_zero ∙ sym (ap (λ (k : ℕ). value k (drop (length word) (bytes word)) w) e ∙ value_none _ _);
    }

-- p is the product of w and v
pub horner-more : {word : List ℕ} {w : F} {i v : ℕ} (p : ℕ) → Horner word w i v → 0 < i → of p ≡ w ⊙ of v
    → Horner word w (i - 1) (bit_xor p (get_or word (i - 1) 0))
horner-more {word} {w} {i} {v} p h some e =
    record {
      most = omega (arith, h.most);
      is = of_xor _ _
          ∙ ap₂ ◌⊕◌ (e ∙ ap (λ (s : F). w ⊙ s) h.is) (sym (read_at of 0 _ _))
          ∙ sym (value-horner _ _ _ i some h.most);
    }

pub horner-all : {word : List ℕ} {w : F} {i v : ℕ} → Horner word w i v → i ≡ 0
    → of v ≡ value (length word) (bytes word) w
horner-all h e = rw (e, drop-none, sub-zero) at h.is

-- ---- from the last symbol on

pub record Front (word l : List ℕ) : Type 0 where
  pub rest : List ℕ
  pub is : word ≡ l ++ rest

pub front-all : (word : List ℕ) → Front word word
front-all word = record { rest = []; is = sym (append-nil word) }

pub front-less : {word : List ℕ} (l : List ℕ) (x : ℕ) → Front word (push l x) → Front word l
front-less l x f = record { rest = x ∷ f.rest; is = f.is ∙ append_assoc l (x ∷ []) f.rest }

pub horner-next : {word : List ℕ} {w : F} {v : ℕ} (l : List ℕ) (p x : ℕ) → Front word (push l x)
    → Horner word w (length (push l x)) v → of p ≡ w ⊙ of v → Horner word w (length l) (bit_xor p x)
horner-next {word} {w} {v} l p x f h e =
    rw (one, last) at (horner-more p h (omega (arith, length_push l x)) e)
  where
    one : length (push l x) - 1 ≡ length l
    one = omega (arith, length_push l x)

    last : get_or word (length l) 0 ≡ x
    last = ap (λ (u : List ℕ). get_or u (length l) 0) (f.is ∙ append_assoc l (x ∷ []) f.rest)
        ∙ get_or-append_seam l x f.rest 0
