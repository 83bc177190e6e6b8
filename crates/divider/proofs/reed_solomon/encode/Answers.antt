-- The check symbols are copied from the top of the remainder.
use Rattle.std.proofs.Common.{length, rules, ◌∙◌, ◌≡◌}
use Rattle.divider.specs.ReedSolomonEncoder.{room, encoded}
use Rattle.divider.proofs.reed_solomon.encode.Goals as goal

pub remainder-r-requires : goal.remainder-r-requires
remainder-r-requires c = (c.requires.0.multiples, c.requires.2)

pub copy_from_slice-requires : goal.copy_from_slice-requires
copy_from_slice-requires c =
    let long : length c.unpack-checks.result ≡ 48 = search rules in
    room c.args.k c.unpack-checks.result c.args.word.now c.requires.1 c.requires.2 long

pub returns : goal.returns
returns c =
    let long : length c.unpack-checks.result ≡ 48 = search rules in
    encoded c.args.first c.args.k c.args.t.now c.unpack-checks.result _
    c.args.word.now c.requires.1 c.requires.2 c.requires.0 long
    (c.unpack-checks.ensures ∙ c.remainder-r.ensures) c.copy_from_slice.ensures.after
