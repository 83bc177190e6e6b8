use Rattle.std.proofs.Common.{ap, arith, sym, ◌∙◌}
use Rattle.std.proofs.lemmas.List.{get_or-map, length-map}
use Rattle.field.specs.Field.{𝟎}
use Rattle.series.specs.Word.{entry-is}
use Rattle.kernel.specs.Symbol.{bits-none, bits-more, bits-all}
use Rattle.kernel.proofs.symbol.is_zero.Goals as goal

pub loop-s-init : goal.loop-s-init
loop-s-init g c = bits-none _

pub loop-s-preserved : goal.loop-s-preserved
loop-s-preserved g c =
    let value = g.S.Symbol.value in
    let list = c.args.list.now in
    let now = c.loop-s in
    let s = c.s-item in
    bits-more _ now.s-index now.bits _ now.invariant c.byte-bits.type_inv
    (c.byte-bits.ensures ∙ sym (entry-is _ now.s-index
    ∙ get_or-map value list now.s-index s.result 𝟎 c.loop-s-test.true ∙ ap value (sym s.is)))

pub returns : goal.returns
returns g c = bits-all c.loop-s.invariant (omega (arith, length-map c.args.list.now g.S.Symbol.value))
