-- Kept as it is, or decoded.
use Rattle.std.proofs.Common.{arith, length, length-take-le, refl, rules, sym, ◌∙◌, ◌≡◌}
use Rattle.block.specs.Parts.{inside}
use Rattle.decoder.specs.Laws.{gives-kept}
use Rattle.decoder.proofs.prepared.read.Goals as goal

pub syndromes-syndromes-requires : goal.syndromes-syndromes-requires
syndromes-syndromes-requires c = (c.requires.0, c.requires.2.subwords)

pub is_clean-requires : goal.is_clean-requires
is_clean-requires c = (
  c.requires.0,
  c.requires.2.further,
  c.syndromes-syndromes.ensures,
)

pub copy-requires : goal.copy-requires
copy-requires c = c.requires.1

pub returns-then-is_clean : goal.returns-then-is_clean
returns-then-is_clean c =
    let known = c.shared_slice_known-3-1.given in
    gives-kept c.args.p c.args.form c.args.input.now _ _ _ c.requires.0.valid
    c.requires.0.size (λ i. omega (arith, known i))
    (sym c.is_clean.ensures
    ∙ c.if-is_clean.true)
    c.copy.ensures refl c.empty.ensures

pub slice_bounds-block-end : goal.slice_bounds-block-end
slice_bounds-block-end c =
    let room : length c.blank-block.result ≡ 2040 = search rules in
    omega (arith, room, inside _ _ 0 c.requires.0 c.requires.0.valid.subwords.0)

pub slice_bounds-decode_copy-end : goal.slice_bounds-decode_copy-end
slice_bounds-decode_copy-end c =
    let room : length c.blank-block.result ≡ 2040 = search rules in
    sym (length-take-le _ _ (omega (arith, room, inside _ _ 0 c.requires.0 c.requires.0.valid.subwords.0)))

pub decode_copy-requires : goal.decode_copy-requires
decode_copy-requires c =
    let room : length c.blank-block.result ≡ 2040 = search rules in (
      c.requires.0,
      length-take-le _ _ (omega (arith, room, inside _ _ 0 c.requires.0 c.requires.0.valid.subwords.0)),
      c.requires.1,
      c.requires.2.further,
      c.syndromes-syndromes.ensures,
    )

pub returns : goal.returns
returns c = c.decode_copy.ensures
