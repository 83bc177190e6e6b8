-- A codeword is decoded to itself.
--
--   untouched    the report that says so: every line clean, nothing changed, no stage after stage 0
--
-- Proved: that is the outcome (decode-codeword).
use Rattle.std.specs.Prelude.{ℕ, zero, suc, ◌<◌, ◌≡◌, refl, []}
use Rattle.std.proofs.Common.{ap, ap₂, ◌∙◌, arith}
use Rattle.std.proofs.Math.Path.{fun_ext}
use Rattle.std.proofs.Math.Decide.{dec_lt}
use Rattle.series.specs.Series.{Series}
use Rattle.profile.specs.declared.Profile.{Profile}
use Rattle.profile.specs.Definition.{capability}
use Rattle.profile.specs.Valid.{Valid}
use Rattle.code.specs.Definition.{Codeword}
use Rattle.staged_decoding.specs.Definition.{Line, line_of, clean_line, Report, accepted, decode}
use Rattle.staged_decoding.specs.Definition.{differences, bit_differences}
use Rattle.staged_decoding.specs.Count.{total-zero}
use Rattle.staged_decoding.specs.Differences.{differences-none, bit_differences-none}
use Rattle.staged_decoding.specs.Accepted.{accepted-line-past, clean-rounds}
use Rattle.staged_decoding.specs.Restorable.{Restored}
use Rattle.staged_decoding.specs.Restoring.{restoring-within}

abbrev pub untouched : Report
untouched = record { line = λ i. clean_line; rounds = λ i. []; changed = 0; bits = 0; last = 0 }

report-equal : (x z : Report) → x.line ≡ z.line → x.rounds ≡ z.rounds → x.changed ≡ z.changed
    → x.bits ≡ z.bits → x.last ≡ z.last → x ≡ z
report-equal x z a b c d e = λ i. record { line = a i; rounds = b i; changed = c i; bits = d i; last = e i }

pub decode-codeword : (p : Profile) → Valid p → (c : Series) → Codeword p c → decode p c ≡ accepted c untouched
decode-codeword p ok c code =
    let (x, e, f, l) = restoring-within p ok c c (λ a h. refl) code (λ i h. omega (arith, none i)) in
    let lines : (i : ℕ) → x.line i ≡ clean_line = λ i. line x e f i (dec_lt i p.subwords) in
    e
    ∙ ap (accepted c)
    (report-equal x untouched (fun_ext lines)
    (fun_ext (λ i. clean-rounds p c c x e i (ap (λ (l : Line). l.verdict) (lines i))))
    (f.changed ∙ total-zero p.subwords _ (λ i h. none i))
    (f.bits ∙ total-zero p.subwords _ (λ i h. no_bits i)) l)
  where
    none : (i : ℕ) → differences p c c i ≡ 0
    none i = differences-none p c c i (λ q l. refl)

    no_bits : (i : ℕ) → bit_differences p c c i ≡ 0
    no_bits i = bit_differences-none p c c i (λ q l. refl)

    line : (x : Report) → decode p c ≡ accepted c x → Restored p c c x → (i : ℕ)
        → Dec (i < p.subwords) → x.line i ≡ clean_line
    line x e f i (no h) = accepted-line-past p c c x e i (omega arith)
    line x e f i (yes h) = go (f.line i h).0 (f.line i h).1.over (f.line i h).2
      where
        go : (r : ℕ) → ((q : ℕ) → q < r → capability p q < differences p c c i)
            → x.line i ≡ line_of r (differences p c c i) (bit_differences p c c i) → x.line i ≡ clean_line
        go zero over is = is ∙ ap₂ (line_of 0) (none i) (no_bits i)
        go (suc r) over is = absurd (omega (arith, over r (omega arith), none i))
