-- A read fails, or the section is judged and its line is written, or not.
use Rattle.std.proofs.Common.{sym, ◌∙◌}
use Rattle.card.specs.ListLaws.{over-falls, unread_reached, line_reached, unwritten_reached}
use Rattle.card.proofs.list.step.Goals as goal

pub returns-then-is_unread : goal.returns-then-is_unread
returns-then-is_unread c =
    let read = c.fill-n in record {
      reached = unread_reached c.args.s _ _ _ _ c.requires.0 c.requires.1 (read.auto.buf ∙ c.requires.2)
          read.ensures.reads (sym c.is_unread.ensures ∙ c.if-is_unread.true);
      falls = over-falls c.args.s c.requires.1;
      kept = tt;
    }

pub returns-then-is_unwritten : goal.returns-then-is_unwritten
returns-then-is_unwritten c =
    let read = c.fill-n in record {
      reached = unwritten_reached c.args.s _ _ _ _ c.requires.0 c.requires.1 (read.auto.buf ∙ c.requires.2)
          read.ensures.reads _ _ _ read.ensures.counts.0 c.judge_kept-r.ensures.judges _
          (sym c.is_unread.ensures ∙ c.if-is_unread.false) c.write_all.ensures
          (sym c.is_unwritten.ensures ∙ c.if-is_unwritten.true);
      falls = over-falls c.args.s c.requires.1;
      kept = tt;
    }

pub returns : goal.returns
returns c =
    let read = c.fill-n in record {
      reached = line_reached c.args.s _ _ _ _ c.requires.0 c.requires.1 (read.auto.buf ∙ c.requires.2)
          read.ensures.reads _ _ _ read.ensures.counts.0 c.judge_kept-r.ensures.judges _
          (sym c.is_unread.ensures ∙ c.if-is_unread.false) c.write_all.ensures
          (sym c.is_unwritten.ensures ∙ c.if-is_unwritten.false) c.judge_kept-r.ensures.next;
      falls = c.judge_kept-r.ensures.judges.falls c.requires.1;
      kept = c.judge_kept-r.ensures.kept;
    }
