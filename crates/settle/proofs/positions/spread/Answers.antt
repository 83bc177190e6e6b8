-- With w·b and w·c looked up.
use Rattle.std.proofs.Common.{ap, ap₂, sym, ◌∙◌}
use Rattle.field.specs.Field.{F, ◌⊕◌, ◌⊙◌, of_xor, val_of}
use Rattle.settling.specs.Locator.{W}
use Rattle.settle.specs.PositionsThird.{spread-zero, spread-one, spread-two}
use Rattle.settle.proofs.positions.spread.Goals as goal

pub returns : goal.returns
returns c =
    let s = c.args.s in
    let x = val_of s.a in
    let y = val_of s.b in
    let z = val_of s.c in
    let b = c.times-wb.ensures _ c.requires ∙ ap (λ (t : F). W 85 ⊙ t) (sym y) in
    let d = c.times-wc.ensures _ c.requires ∙ ap (λ (t : F). W 85 ⊙ t) (sym z) in (
      val_of _ ∙ of_xor _ _ ∙ ap₂ ◌⊕◌ (of_xor _ _ ∙ sym (ap₂ ◌⊕◌ x y)) (sym z) ∙ spread-zero _ _ _,
      val_of _ ∙ of_xor _ _ ∙ ap₂ ◌⊕◌ (of_xor _ _ ∙ ap₂ ◌⊕◌ (of_xor _ _ ∙ ap₂ ◌⊕◌ (sym x) b) d) (sym z)
          ∙ spread-one _ _ _,
      val_of _ ∙ of_xor _ _ ∙ ap₂ ◌⊕◌ (of_xor _ _ ∙ ap₂ ◌⊕◌ (of_xor _ _ ∙ ap₂ ◌⊕◌ (sym x) b) (sym y)) d
          ∙ spread-two _ _ _,
    )
