-- The flags that are set, among those of the subwords.
use Rattle.std.proofs.Common.{List, Bool, arith, count_by, length, rules, take, true, false, refl, sym, suc, zero}
use Rattle.std.proofs.Common.{add-one, ap, ℕ, ◌+◌, ◌∙◌, ◌≡◌, ◌≤◌}
use Rattle.std.proofs.lemmas.List.Sums.{count_by_more_yes, count_by_more_no}
use Rattle.staged_decoding.specs.Definition.{count}
use Rattle.staged_decoding.specs.Count.{count-zero, count_yes, count_no}
use Rattle.extend.specs.LagrangeDefinition.{flag}
use Rattle.extend.proofs.lagrange.unsettled.Goals as goal

counted : (l : List Bool) (n : ℕ) → n ≤ length l → count_by (λ b. b) (take n l) ≡ count n (flag l)
counted l zero h = sym (count-zero (flag l))
counted l (suc n) h =
    ap (λ k. count_by (λ b. b) (take k l)) (sym (add-one n)) ∙ go (counted l n (omega arith)) (flag l n) refl
  where
    go : count_by (λ b. b) (take n l) ≡ count n (flag l) → (x : Bool) → flag l n ≡ x
        → count_by (λ b. b) (take (n + 1) l) ≡ count (suc n) (flag l)
    go before true e =
        count_by_more_yes (λ b. b) l n false (omega arith) e ∙ ap (λ k. k + 1) before ∙ add-one (count n (flag l))
        ∙ sym (count_yes n (flag l) e)
    go before false e = count_by_more_no (λ b. b) l n false (omega arith) e ∙ before ∙ sym (count_no n (flag l) e)

pub returns : goal.returns
returns c =
    let list = c.args.pending in
    let is : c.count.result ≡ count_by (λ b. b) (take c.args.p.subwords list) = search rules in
    is ∙ counted list c.args.p.subwords (omega (arith, c.requires))
