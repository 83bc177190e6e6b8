-- One doubling or two.
use Rattle.std.proofs.Common.{ap, arith, sym, ◌∙◌, ◌≡◌}
use Rattle.field.specs.Field.{F, α, ◌⊙◌, ⊙_assoc, pow, pow-suc, pow-one, of}
use Rattle.encoder.proofs.carry.raised.Goals as goal

pub returns-then-l-eq1 : goal.returns-then-l-eq1
returns-then-l-eq1 c =
    let e : c.args.l ≡ 1 = omega arith in
    c.twice-y.ensures ∙ sym (ap (λ l. pow α l ⊙ of c.args.x) e
    ∙ ap (λ (s : F). s ⊙ of c.args.x) (pow-one α))

pub returns : goal.returns
returns c =
    let x = of c.args.x in
    let e : c.args.l ≡ 2 = omega (arith, c.if-l-eq1.false, c.requires) in
    c.twice.ensures
    ∙ ap (λ (s : F). α ⊙ s) c.twice-y.ensures
    ∙ sym (ap (λ l. pow α l ⊙ x) e
    ∙ ap (λ (s : F). s ⊙ x) (pow-suc α 1 ∙ ap (λ (s : F). α ⊙ s) (pow-one α)) ∙ ⊙_assoc α α x)
