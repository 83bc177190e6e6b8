-- The sum of two symbols, as a number.
use Rattle.std.proofs.Common.{ap, arith, bit_xor, sym, ◌∙◌, ◌≡◌}
use Rattle.field.specs.Field.{F, ◌⊕◌, of, of_xor}
use Rattle.divider.specs.Packed.{Word, out, six-top}
use Rattle.divider.proofs.packed.index.Goals as goal

pub returns : goal.returns
returns c =
    let r = c.args.r in
    let x = c.args.x in
    let is : c.index.result ≡ bit_xor (out r.5) x = c.index.ensures.0 in
    let h0 : Word r.0 = omega (arith, c.well_formed.0) in
    let h1 : Word r.1 = omega (arith, c.well_formed.0) in
    let h2 : Word r.2 = omega (arith, c.well_formed.0) in
    let h3 : Word r.3 = omega (arith, c.well_formed.0) in
    let h4 : Word r.4 = omega (arith, c.well_formed.0) in
    let last = six-top r.0 r.1 r.2 r.3 r.4 r.5 h0 h1 h2 h3 h4 in
    (ap of is ∙ of_xor _ _ ∙ ap (λ (s : F). s ⊕ of x) (sym last), c.index.ensures.1)
