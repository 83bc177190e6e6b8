-- There is room for n bytes.
use Rattle.std.proofs.Common.{ℕ, arith, ap, ◌∙◌, ◌≤◌, ◌≡◌, List, ◌++◌, length, take, replicate}
use Rattle.std.proofs.Common.{length-append, length-take-le}
use Rattle.std.proofs.lemmas.List.{length-replicate}
use Rattle.test_support.proofs.input.bytes.Goals as goal

front : (n : ℕ) (read rest : List ℕ) → length read ≡ n → length (take n (read ++ rest)) ≡ n
front n read rest h = length-take-le n (read ++ rest) (omega (arith, h, length-append read rest))

pub returns : goal.returns
returns c =
    let blank : List ℕ = replicate 65536 0 in
    let room : c.args.n ≤ length blank = rw (length-replicate {A = ℕ} 65536 0) c.requires in
    ap length c.of.ensures ∙ front _ c.fill.new.to _ (c.fill.auto.to ∙ length-take-le _ blank room)
