-- What is written, then what is read.
use Rattle.std.proofs.Common.{arith}
use Rattle.theorems.specs.declared.Trip.{Trip}
use Rattle.theorems.specs.Theorems.{trip}
use Rattle.theorems.proofs.round_trip.Goals as goal

pub returns : goal.returns
returns c =
    let given = c.args in
    let wrote = c.encode-a.ensures in
    let read = c.extract-r.ensures in
    let t : Trip = record { written = c.encode-a.result; read = c.extract-r.result } in
    trip given.profile.now given.«data».now given.block.now _ given.received.now given.out.now _ t
    (λ i. omega (arith, c.type_inv.profile i))
    (λ i. omega (arith, c.type_inv.«data» i))
    wrote.answer wrote.block read.answer read.«data»
