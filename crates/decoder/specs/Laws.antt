-- From the code to the definition.
--
-- Proved: a copy may stand for what was copied (fits-same, reached-same); where every subword is settled each is in the
-- code of t0, with few bits (reached-told); a refusal, a codeword and each end of decoding give what the definition
-- says (gives-refused; gives-kept; gives-unsettled, gives-foreign, gives-read), and so does a result by another name
-- (gives_as).
use Rattle.std.specs.Prelude as std
use Rattle.std.specs.Prelude.{ℕ, ◌<◌, ◌≡◌, true, false, List, length, get_or, Ok, Err, IfOk}
use Rattle.std.proofs.Common.{sym, ap, ◌∙◌, subst}
use Rattle.std.proofs.Math.Bool.{decide_iff}
use Rattle.series.specs.Series.{Series}
use Rattle.series.specs.Array.{bytes, word_bytes}
use Rattle.series.specs.Decide.{holds}
use Rattle.profile.specs.declared.Profile.{Profile}
use Rattle.profile.specs.declared.Refusal.{Refusal}
use Rattle.profile.specs.declared.Refusal.TheVariants.{Unsettled, NotCodeword}
use Rattle.profile.specs.Definition.{block_size}
use Rattle.profile.specs.Valid.{Valid}
use Rattle.code.specs.Encoding.{codeword?}
use Rattle.block.specs.Parts.{Fits}
use Rattle.code.specs.Check.{Subwords}
use Rattle.solver.specs.declared.Form.{Form}
use Rattle.staged_decoding.specs.Definition.{total, count_of, Line, report, decode}
use Rattle.staged_decoding.specs.Count.{total_cong}
use Rattle.staged_decoding.specs.Foreign.{settled-subwords}
use Rattle.staged_decoding.specs.Clean.{untouched, decode-codeword}
use Rattle.stages.specs.declared.Ending.{Ending}
use Rattle.stages.specs.Report.{says, Counted, Tells}
use Rattle.stages.specs.View.{Reached}
use Rattle.stages.specs.Walk.{reached-settled, reached-solvers, reached-bits}
use Rattle.decoder.specs.declared.prepared.Reading.{Reading}
use Rattle.decoder.specs.Definition.{Result, concluded, refused, Gives}

-- ---- copies

pub fits-same : {p : Profile} {a b : List ℕ} → a ≡ b → Fits p b → Fits p a
fits-same {p} e = subst (Fits p) (sym e)

pub reached-same : {p : Profile} {f : Form} {a b : List ℕ} {z : Series} {e : std.Result Ending Ending}
    → a ≡ b → Reached p f (bytes a) z e → Reached p f (bytes b) z e
reached-same {p} {f} {z = z} {e = e} same = subst (λ l. Reached p f (bytes l) z e) same

-- where every subword is settled each is in the code of t0, and no line has more bits than a subword of 255 symbols
pub reached-subwords : (p : Profile) (f : Form) (y b : Series) (e : Ending)
    → Valid p → Reached p f y b (Ok e) → Subwords p b
reached-subwords p f y b e ok r =
    subst (Subwords p) r.block (settled-subwords p ok y e.stage r.last (reached-settled p f y b e r))

pub reached-told : (p : Profile) (f : Form) (y b : Series) (e : std.Result Ending Ending) → Valid p → Reached p f y b e
    → IfOk e (λ e. Subwords p b × Counted p.subwords e.lines)
reached-told p f y b (Ok e) ok r = (reached-subwords p f y b e ok r, reached-bits p f y b e r ok)
reached-told p f y b (Err e) ok r = tt

-- ---- ends

pub gives_as : (f : Form) (r q : Result) (o e : List ℕ) (a : Reading) → r ≡ q → Gives f q o e a → Gives f r o e a
gives_as f r q o e a same = subst (λ r. Gives f r o e a) (sym same)

pub gives-refused : (f : Form) (q : Refusal) (o e : List ℕ) (a : Reading) → a.answer ≡ Err q → e ≡ o
    → Tells f untouched a.report
    → Gives f (refused q) o e a
gives-refused f q o e a says same tells = record { answer = says; block = same; report = tells }

-- a codeword is not decoded
pub gives-kept : (p : Profile) (f : Form) (b o c : List ℕ) (a : Reading) → Valid p → length b ≡ block_size p
    → ((i : ℕ) → get_or b i 0 < 256)
    → holds (codeword? p (bytes b)) ≡ true → c ≡ b → a.answer ≡ Ok tt → Tells f untouched a.report
    → Gives f (concluded p (decode p (bytes b))) o c a
gives-kept p f b o c a ok long small code copied says tells =
    rw (decode-codeword p ok (bytes b) ((decide_iff (codeword? p (bytes b))).0 code))
    (record { answer = says; block = copied ∙ sym (word_bytes (block_size p) b long small); report = tells })

module _ (p : Profile) (f : Form) (y b : Series) (e : Ending) where
  unsettled-is : Reached p f y b (Err e) → concluded p (decode p y) ≡ refused (Unsettled e.stage)
  unfolding decode
  unsettled-is r = rw r.is

  foreign-is : Reached p f y b (Ok e) → holds (codeword? p b) ≡ false → concluded p (decode p y) ≡ refused NotCodeword
  unfolding decode
  foreign-is r wrong = rw (reached-settled p f y b e r, r.block, wrong)

  pub gives-unsettled : (o c : List ℕ) (a : Reading)
      → Reached p f y b (Err e) → a.answer ≡ Err (Unsettled e.stage) → c ≡ o
      → Tells f untouched a.report → Gives f (concluded p (decode p y)) o c a
  gives-unsettled o c a r says same tells = rw (unsettled-is r) (gives-refused f _ o c a says same tells)

  pub gives-foreign : (o c : List ℕ) (a : Reading)
      → Reached p f y b (Ok e) → holds (codeword? p b) ≡ false → a.answer ≡ Err NotCodeword → c ≡ o
      → Tells f untouched a.report → Gives f (concluded p (decode p y)) o c a
  gives-foreign o c a r wrong says same tells = rw (foreign-is r wrong) (gives-refused f _ o c a says same tells)

pub gives-read : (p : Profile) (f : Form) (y : Series) (b o c : List ℕ) (e : Ending) (a : Reading)
    → c ≡ b → length b ≡ block_size p → ((i : ℕ) → get_or b i 0 < 256)
    → Reached p f y (bytes b) (Ok e) → holds (codeword? p (bytes b)) ≡ true → a.answer ≡ Ok tt
    → a.report.lines ≡ e.lines
    → a.report.changed ≡ total p.subwords (λ i. count_of (says e.lines i).verdict)
    → a.report.bits ≡ total p.subwords (λ i. (says e.lines i).bits) → a.report.last ≡ e.stage
    → Gives f (concluded p (decode p y)) o c a
unfolding decode report
gives-read p f y b o c e a copied long small r code says lines changed bits last =
    rw (reached-settled p f y (bytes b) e r, r.block, code) (record {
      answer = says;
      block = copied ∙ sym (word_bytes (block_size p) b long small);
      report = rw lines (record {
        long = r.long;
        lines = r.kept.says;
        changed = changed
            ∙ total_cong p.subwords _ _ (λ i m. ap (λ (l : Line). count_of l.verdict) (r.kept.says i));
        bits = bits ∙ total_cong p.subwords _ _ (λ i m. ap (λ (l : Line). l.bits) (r.kept.says i));
        last = last;
        solvers = reached-solvers p f y (bytes b) e r;
      });
    })
