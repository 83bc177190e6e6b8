-- A settled subword's row, or the window of its merged word, by the remainder.
use Rattle.std.proofs.Common.{arith, length, length-take-le, rules, sym, ◌*◌, ◌≡◌}
use Rattle.profile.specs.Definition.{first-root}
use Rattle.profile.specs.Valid.{checks-least, checks-most, checks-below}
use Rattle.divider.specs.GeneratorTable.{table_for}
use Rattle.extend.specs.Rows.{left-syndrome, extended_no, extended-word}
use Rattle.extend.proofs.extend_row.Goals as goal

pub bounds-pending-i : goal.bounds-pending-i
bounds-pending-i c = omega (arith, c.requires.5, c.requires.0.valid.subwords)

pub returns-then-not-pending-i : goal.returns-then-not-pending-i
returns-then-not-pending-i c =
    let given = c.args in
    extended_no given.p given.from given.to given.pending _ given.i _ (c.if-not-pending-i.true)

pub slice_bounds-residue-end : goal.slice_bounds-residue-end
slice_bounds-residue-end c = sym (length-take-le c.args.p.length _ (omega (arith, c.requires.0.valid.length)))

pub residue-left-requires : goal.residue-left-requires
residue-left-requires c =
    let p = c.args.p in
    let ok = c.requires.0.valid in
    let k = c.further-k.ensures in
    let size = length-take-le p.length c.merge-word.result (omega (arith, ok.length)) in (
      table_for (sym k) (c.requires.1 c.requires.2),
      omega (arith, checks-least p ok 0, checks-most p ok 0, k),
      omega (arith, checks-below p ok 0, k, size),
    )

pub slice_bounds-left-end : goal.slice_bounds-left-end
slice_bounds-left-end c =
    let long : length c.residue-left.result ≡ 48 = search rules in
    omega (
      arith,
      checks-most c.args.p c.requires.0.valid 0,
      c.further-k.ensures,
      long,
    )

pub slice_bounds-at_roots-end : goal.slice_bounds-at_roots-end
slice_bounds-at_roots-end c =
    let long : length c.residue-left.result ≡ 48 = search rules in
    sym (length-take-le c.further-k.result _ (omega (
      arith,
      checks-most c.args.p c.requires.0.valid 0,
      c.further-k.ensures,
      long,
    )))

pub at_roots-requires : goal.at_roots-requires
at_roots-requires c = omega (arith, c.requires.4, checks-most c.args.p c.requires.0.valid 0)

pub splice-requires : goal.splice-requires
splice-requires c = omega (arith, c.requires.4, checks-most c.args.p c.requires.0.valid 0)

pub returns : goal.returns
returns c =
    let x = c.args in
    let p = x.p in
    let ok = c.requires.0.valid in
    let merge = c.merge-word in
    let residue = c.residue-left in
    let k = c.further-k.ensures in
    let long : length residue.result ≡ 48 = search rules in
    extended-word p x.from x.to x.pending _ x.i _ _ _
    (c.if-not-pending-i.false)
    (λ j low h.
    left-syndrome (first-root p) (2 * p.t0) p.length _ x.to _ merge.result residue.result _
    (omega (arith, checks-least p ok 0, checks-most p ok 0, k))
    (omega (arith, c.requires.4, k)) (omega (arith, ok.length)) long merge.ensures residue.ensures
    c.at_roots.ensures j
    (omega (arith, c.requires.3, low)) h)
    c.splice.ensures
