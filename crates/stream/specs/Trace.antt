-- What went through the streams of a program.
--
--   Trace s c o   where the streams are s, c was read and o was written
--
-- The contracts of the library say how many bytes a call moves, and not which; so all that can be said here is that c
-- and o have as many bytes as were moved. Nobody can open Trace. It is had where the streams are opened (trace_open),
-- and goes on where they change (trace-same), a read puts bytes into an array (trace_took) and a write takes bytes
-- (trace_gave): src/lib.rt uses these at the calls alone, and whoever holds a Trace has it from there.
use Rattle.std.specs.Prelude.{◌≡◌, ℕ, ◌+◌, ◌%◌, ◌^◌, List, [], ◌++◌, length}
use Rattle.std.proofs.Common.{sym, ap, ◌∙◌, length-append}
use Rattle.std.proofs.Math.Nat.{mod-add-mod}
use Rattle.stream.specs.declared.Stream.{Stream}

pub Trace : Stream → List ℕ → List ℕ → Type 0
Trace s c o = (s.taken ≡ length c % 2 ^ 64) × (s.given ≡ length o % 2 ^ 64)

-- so many bytes more
more : (n m : ℕ) (c y : List ℕ) → m ≡ (n + length y) % 2 ^ 64 → n ≡ length c % 2 ^ 64 → m ≡ length (c ++ y) % 2 ^ 64
more n m c y e h = e
    ∙ ap (λ (k : ℕ). (k + length y) % 2 ^ 64) h
    ∙ mod-add-mod (length c) (2 ^ 64) (length y)
    ∙ ap (λ (k : ℕ). k % 2 ^ 64) (sym (length-append c y))

module _ (s r : Stream) (c o : List ℕ) where
  pub trace-same : r.taken ≡ s.taken → r.given ≡ s.given → Trace s c o → Trace r c o
  unfolding Trace
  trace-same e g h = (e ∙ h.0, g ∙ h.1)

  pub trace_took : (y : List ℕ) → r.taken ≡ (s.taken + length y) % 2 ^ 64 → r.given ≡ s.given → Trace s c o
      → Trace r (c ++ y) o
  unfolding Trace
  trace_took y e g h = (more s.taken r.taken c y e h.0, g ∙ h.1)

  pub trace_gave : (y : List ℕ) → r.taken ≡ s.taken → r.given ≡ (s.given + length y) % 2 ^ 64 → Trace s c o
      → Trace r c (o ++ y)
  unfolding Trace
  trace_gave y e g h = (e ∙ h.0, more s.given r.given o y g h.1)

pub trace_open : (s : Stream) → s.taken ≡ 0 → s.given ≡ 0 → Trace s [] []
unfolding Trace
trace_open s e g = (e, g)
