-- The remainders of three words at once, of which as many are nested words as there are.
use Rattle.std.proofs.Common.{Bor, List, [], arith, length, length-take-le, sym, ℕ, ◌≡◌}
use Rattle.series.specs.Array.{bytes}
use Rattle.profile.specs.Valid.{checks-most, checks-below}
use Rattle.divider.specs.GeneratorTable.{table_for}
use Rattle.divider.specs.Each.{each-of_four}
use Rattle.block.specs.CodewordLaws.{residual-left, three-rows}
use Rattle.block.proofs.codeword.remainders.Goals as goal

pub returns-then-p-eq0 : goal.returns-then-p-eq0
returns-then-p-eq0 c = λ l h. absurd (omega arith)

pub word-a-requires : goal.word-a-requires
word-a-requires c = c.requires.0

pub word-b-requires : goal.word-b-requires
word-b-requires c = c.requires.0

pub word-c-requires : goal.word-c-requires
word-c-requires c = c.requires.0

pub further-requires : goal.further-requires
further-requires c = c.requires.0.valid

pub residues-requires : goal.residues-requires
residues-requires c =
    let p = c.args.p in
    let n = p.length in
    let ok = c.requires.0.valid in
    let k = c.further.ensures in
    let size1 = length-take-le n c.word-a.result (omega (arith, c.word-a.ensures.0, ok.length)) in
    let size2 = length-take-le n c.word-b.result (omega (arith, c.word-b.ensures.0, ok.length)) in
    let size3 = length-take-le n c.word-c.result (omega (arith, c.word-c.ensures.0, ok.length)) in (
      table_for (sym k) (c.requires.1 (omega arith)),
      omega (arith, checks-most p ok 0, k),
      omega (arith, checks-below p ok 0, k),
      each-of_four (λ _ w. length w.now ≡ n) _ _ _ _ size1 size2 size3 size3,
    )

pub returns : goal.returns
returns c =
    let p = c.args.p in
    let s = bytes c.args.block.now in
    let ok = c.requires.0.valid in
    let k = c.further.ensures in
    let r = c.residues.ensures in
    let none : Bor (List ℕ) = record { ref_ptr = (0, 0); now = [] } in
    three-rows p s _ _ _ ok
    (residual-left p s 0 _ c.word-a.result _ (omega (arith, c.word-a.ensures.0, ok.length)) k c.word-a.ensures.1
    (r 0 none [] (omega arith)))
    (residual-left p s 1 _ c.word-b.result _ (omega (arith, c.word-b.ensures.0, ok.length)) k c.word-b.ensures.1
    (r 1 none [] (omega arith)))
    (residual-left p s 2 _ c.word-c.result _ (omega (arith, c.word-c.ensures.0, ok.length)) k c.word-c.ensures.1
    (r 2 none [] (omega arith)))
