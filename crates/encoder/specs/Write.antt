-- From subword to subword.
--
--   Upper p D s i               the subwords from i on of the block s are right for the data D
--   DownTo p input out i end    so it is of the block `out` and the data `input`; the data of the others end at `end`
--   Stretch p l i k end         where the data of subword i are, and how many
--   Quarters p l i k end        that the data of subwords i to i + 3 are as many each, and where they end
--
-- Proved: so it is before anything is written (down-none), after one subword more (down-one), one of four as well
-- (down-stretch); down to subword 0 the block encodes the data (down-all).
use Rattle.std.specs.Prelude.{ℕ, suc, ◌+◌, ◌-◌, ◌*◌, ◌≤◌, ◌<◌, ◌≡◌, List, length, take, drop as drop-list}
use Rattle.std.proofs.Common.{sym, ap, ◌∙◌, subst, suc-mul, arith}
use Rattle.std.proofs.Math.Decide.{ℕ_discrete}
use Rattle.field.specs.Field.{◌⊕◌, ⊕_comm, of, of_zero}
use Rattle.series.specs.Series.{Series, ◌⊞◌, ◌⊠◌, ⊞-at}
use Rattle.series.specs.Shift.{zpow, cut, zpow-at, drop_at, cut_low}
use Rattle.series.specs.Array.{bytes}
use Rattle.series.specs.Part.{read-part}
use Rattle.profile.specs.declared.Profile.{Profile}
use Rattle.profile.specs.Definition.{checks, data_length, data_start, data_size}
use Rattle.profile.specs.FetchDefinition.{between}
use Rattle.profile.specs.Valid.{Valid, checks-high, checks-below, data_size-is, data_start-most}
use Rattle.code.specs.Triangle.{carried, carried_cong}
use Rattle.code.specs.Definition.{Encodes}
use Rattle.code.specs.Right.{Right, right_stays, right-step, all_right}
use Rattle.block.specs.Parts.{Fits}
use Rattle.encoder.specs.CarrySubword.{filled, Wrote}

-- ---- from the last subword to the first

-- a subword that was written is right for the data D of the whole block
wrote_right : (p : Profile) → Valid p → (d D old new : Series) (i : ℕ)
    → ((q : ℕ) → q < data_length p i → d q ≡ D (data_start p i + q))
    → Wrote p d i old new → Right p D new i
unfolding filled
wrote_right p ok d D old new i part w =
    right-step p ok D new c x i carry given (λ q l. w.here q l ∙ ⊞-at _ _ q ∙ ⊕_comm _ _)
  where
    c : Series
    c = cut p.length (carried p old i)

    x : Series
    x = zpow (checks p i) ⊠ d ⊞ c

    carry : (q : ℕ) → q < p.length → carried p new i q ≡ c q
    carry q l = sym (carried_cong p old new i w.above q l) ∙ sym (cut_low p.length _ q l)

    given : (q : ℕ) → q < data_length p i → x (checks p i + q) ≡ D (data_start p i + q) ⊕ c (checks p i + q)
    given q l = ⊞-at _ _ (checks p i + q) ∙ ap (λ t. t ⊕ c (checks p i + q)) (zpow-at (checks p i) d q ∙ part q l)

-- the subwords from i on are right
abbrev pub Upper : Profile → Series → Series → ℕ → Type 0
Upper p D s i = (k : ℕ) → i ≤ k → k < p.subwords → Right p D s k

pub upper-next : (p : Profile) → Valid p → (d D old new : Series) (i : ℕ)
    → ((q : ℕ) → q < data_length p i → d q ≡ D (data_start p i + q))
    → Wrote p d i old new → Upper p D old (suc i) → Upper p D new i
upper-next p ok d D old new i part w u k h l = go (ℕ_discrete k i)
  where
    go : Dec (k ≡ i) → Right p D new k
    go (yes e) = rw e (wrote_right p ok d D old new i part w)
    go (no e) = right_stays p D old new k l (λ j v. w.above j (omega arith)) (u k (omega arith) l)

-- written down to subword i, the data before it being the first `end`
pub record DownTo (p : Profile) (input out : List ℕ) (i end : ℕ) : Type 0 where
  pub fits : Fits p out
  pub size : length input ≡ data_size p
  pub most : i ≤ p.subwords
  pub end_is : end ≡ data_start p i
  pub right : Upper p (bytes input) (bytes out) i

pub down-none : {p : Profile} {input out : List ℕ} → Fits p out → length input ≡ data_size p
    → DownTo p input out p.subwords (length input)
down-none {p} fits size = record {
  fits = fits;
  size = size;
  most = omega arith;
  end_is = size ∙ sym (data_size-is p fits.valid);
  right = λ k h l. absurd (omega arith);
}

pub down-at : {p : Profile} {input out : List ℕ} {i j end : ℕ} → i ≡ j → DownTo p input out i end
    → DownTo p input out j end
down-at {p} {input} {out} {end = end} e = subst (λ i. DownTo p input out i end) e

pub down-all : {p : Profile} {input out : List ℕ} {i end : ℕ} → DownTo p input out i end → i ≡ 0
    → Encodes p (bytes input) (bytes out)
down-all {p} {input} {out} down e =
    all_right p down.fits.valid (bytes input) (bytes out) (λ k l. down.right k (omega arith) l)

-- where the data of subword i end, l data symbols being given in all, and where they start
pub record Stretch (p : Profile) (l i k end : ℕ) : Type 0 where
  pub less : i < p.subwords
  pub checks_le : k ≤ p.length
  pub length_le : p.length - k ≤ end
  pub start : end - (p.length - k) ≡ data_start p i
  pub size : end - (end - (p.length - k)) ≡ data_length p i
  pub end_le : end ≤ l

pub stretch : {p : Profile} {input out : List ℕ} {i k end : ℕ} → DownTo p input out (suc i) end → k ≡ checks p i
    → Stretch p (length input) i k end
stretch {p} {i = i} down ek =
    let ok = down.fits.valid in
    let ee = down.end_is in
    record {
      less = omega (arith, down.most);
      checks_le = omega (arith, ek, checks-below p ok i);
      length_le = omega (arith, ek, ee);
      start = omega (arith, ek, ee);
      size = omega (arith, ek, ee);
      end_le = omega (arith, ee, down.size, data_start-most p ok (suc i) down.most);
    }

-- the data of subword i as a part of all data, a being where they start
pub part_data : (p : Profile) (i a m : ℕ) (d : List ℕ) → a ≡ data_start p i → m ≡ data_length p i → a + m ≤ length d
    → (q : ℕ) → q < data_length p i → bytes (take m (drop-list a d)) q ≡ bytes d (data_start p i + q)
part_data p i a m d ea em h q l =
    ap (λ (f : Series). f q) (read-part of 0 of_zero a m d h) ∙ cut_low m _ q (omega arith) ∙ drop_at a _ q
    ∙ ap (λ a. bytes d (a + q)) ea

pub down-one : {p : Profile} {input out new : List ℕ} {i k end : ℕ} → DownTo p input out (suc i) end
    → k ≡ checks p i → length new ≡ length out
    → Wrote p (bytes (between (end - (p.length - k)) end input)) i (bytes out) (bytes new)
    → DownTo p input new i (end - (p.length - k))
down-one {p} {input} {out} {new} {i} {k} {end} down ek same wrote =
    let here = stretch down ek in
    let start = end - (p.length - k) in
    let ok = down.fits.valid in
    let inside : start + (end - start) ≤ length input = omega (arith, here.end_le) in
    record {
      fits = record { valid = ok; size = same ∙ down.fits.size };
      size = down.size;
      most = omega (arith, down.most);
      end_is = here.start;
      right = upper-next p ok _ (bytes input) (bytes out) (bytes new) i
          (part_data p i start (end - start) input here.start here.size inside) wrote down.right;
    }

-- ---- four subwords at a stretch

pub checks-above : (p : Profile) (i k : ℕ) → p.nested ≤ i → k ≡ checks p p.nested → k ≡ checks p i
checks-above p i k h e = e ∙ checks-high p p.nested (omega arith) ∙ sym (checks-high p i h)

-- l data symbols being given in all, those of subwords i to i + 3 are as many each, and the last of them end at `end`
pub record Quarters (p : Profile) (l i k end : ℕ) : Type 0 where
  pub checks_le : k ≤ p.length
  pub less : 4 * (p.length - k) ≤ end
  pub end_le : end ≤ l
  pub size : (j : ℕ) → i ≤ j → p.length - k ≡ data_length p j

pub quarters : {p : Profile} {input out : List ℕ} {i k end : ℕ} → DownTo p input out (i + 4) end → p.nested ≤ i
    → k ≡ checks p p.nested → Quarters p (length input) i k end
quarters {p} {input} {out} {i} {k} {end} down h ek = record {
  checks_le = omega (arith, ek, checks-below p ok p.nested);
  less = omega (arith, down.end_is, start 0, start 1, start 2, start 3);
  end_le = omega (arith, down.end_is, down.size, data_start-most p ok (i + 4) down.most);
  size = size;
}
  where
    ok : Valid p
    ok = down.fits.valid

    size : (j : ℕ) → i ≤ j → p.length - k ≡ data_length p j
    size j u = ap (λ c. p.length - c) (checks-above p j k (omega arith) ek)

    start : (j : ℕ) → data_start p (i + suc j) ≡ data_start p (i + j) + (p.length - k)
    start j =
        let next : i + suc j ≡ suc (i + j) = omega arith in
        ap (data_start p) next ∙ ap (λ l. data_start p (i + j) + l) (sym (size (i + j) (omega arith)))

-- one of them more, d being its data
pub down-stretch : {p : Profile} {input out new d : List ℕ} (i k start j m : ℕ)
    → let one = p.length - k in DownTo p input out (i + j) (start + j * one)
    → j ≡ suc m → k ≡ checks p (i + m) → length new ≡ length out
    → d ≡ between (start + m * one) (start + m * one + one) input
    → Wrote p (bytes d) (i + m) (bytes out) (bytes new) → DownTo p input new (i + m) (start + m * one)
down-stretch {p} {input} {out} {new} {d} i k start j m down ej ek same ed wrote =
    let at : i + j ≡ suc (i + m) = omega arith in
    let end : start + j * one ≡ begin + one = ap (λ j. start + j * one) ej ∙ omega (arith, suc-mul m one) in
    let back : begin + one - one ≡ begin = omega arith in
    let here : Wrote p (bytes (between (begin + one - one) (begin + one) input)) (i + m) (bytes out) (bytes new) =
    rw (back, sym ed) wrote in
    rw back at (down-one (rw (at, end) at down) ek same here)
  where
    one : ℕ
    one = p.length - k

    begin : ℕ
    begin = start + m * one
