-- The block that was read, and its data.
use Rattle.std.proofs.Common.{ap, arith, drop, length, length-take-le, sym, take_at, ◌++◌, ◌∙◌}
use lib.Seq.{length_front}
use Rattle.series.specs.Array.{bytes}
use Rattle.profile.specs.Definition.{unless_refused}
use Rattle.block.specs.Parts.{inside}
use Rattle.block.specs.Gather.{data_of}
use Rattle.staged_decoding.specs.Definition.{decode}
use Rattle.decoder.specs.Extraction.{handed-is}
use Rattle.decoder.proofs.read_data.Goals as goal

pub slice_bounds-block-end : goal.slice_bounds-block-end
slice_bounds-block-end c = omega (arith, c.blank-block.ensures, inside _ _ 0 c.requires.0 c.requires.0.valid.subwords.0)

pub slice_bounds-read-end : goal.slice_bounds-read-end
slice_bounds-read-end c =
    let fits = inside _ _ 0 c.requires.0 c.requires.0.valid.subwords.0 in
    sym (length-take-le _ _ (omega (arith, c.blank-block.ensures, fits)))

pub read-r-requires : goal.read-r-requires
read-r-requires c =
    let fits = inside _ _ 0 c.requires.0 c.requires.0.valid.subwords.0 in
    (c.requires.0, length-take-le _ _ (omega (arith, c.blank-block.ensures, fits)))

pub slice_bounds-block-end-2 : goal.slice_bounds-block-end-2
slice_bounds-block-end-2 c =
    let read = c.read-r in
    let fits = inside _ _ 0 c.requires.0 c.requires.0.valid.subwords.0 in
    let n = length c.args.input.now in
    let long = length_front c.blank-block.result read.new.out n read.auto.out in
    omega (arith, long, c.blank-block.ensures, fits)

pub slice_bounds-hand_out-end : goal.slice_bounds-hand_out-end
slice_bounds-hand_out-end c =
    let read = c.read-r in
    let fits = inside _ _ 0 c.requires.0 c.requires.0.valid.subwords.0 in
    let n = length c.args.input.now in
    let long = length_front c.blank-block.result read.new.out n read.auto.out in
    sym (length-take-le _ _ (omega (arith, long, c.blank-block.ensures, fits)))

pub hand_out-requires : goal.hand_out-requires
hand_out-requires c =
    let fits = inside _ _ 0 c.requires.0 c.requires.0.valid.subwords.0 in
    let read = c.read-r in
    let n = length c.args.input.now in
    let long = length_front c.blank-block.result read.new.out n read.auto.out in
    let size = length-take-le n (read.new.out ++ drop n c.blank-block.result)
    (omega (arith, long, c.blank-block.ensures, fits)) in
    (record { valid = c.requires.0.valid; size = size ∙ c.requires.0.size }, c.requires.1)

pub returns : goal.returns
returns c =
    let fits = inside _ _ 0 c.requires.0 c.requires.0.valid.subwords.0 in
    let read = c.read-r in
    let n = length c.args.input.now in
    let size = read.auto.out
    ∙ length-take-le n c.blank-block.result (omega (arith, c.blank-block.ensures, fits)) in
    let p = c.args.p in
    let gives = read.ensures in
    let handed = c.hand_out.ensures in
    let front = ap (λ b. unless_refused read.result.answer (data_of p b) c.args.out.now)
    (take_at read.new.out _ n size) in
    let outcome = decode p (bytes c.args.input.now) in
    let is = handed-is p c.args.form outcome _ _ c.args.out.now read.result gives in
    (gives.answer, handed ∙ front ∙ is, gives.report)
