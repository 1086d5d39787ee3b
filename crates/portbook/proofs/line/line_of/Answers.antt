use Rattle.std.proofs.Common.{IsOk, codes, sym, subst, arith, rules}
use Rattle.portbook.proofs.Room.{fits}
use Rattle.portbook.proofs.line.line_of.Goals.{in-Ok, in-Err}
use Rattle.portbook.proofs.line.line_of.Goals as goal

pub unwrap-requires : goal.unwrap-requires
unwrap-requires c =
    elim c.match-read.branch [
      | in-Ok w ↦ subst IsOk (sym w.line-is) (w.three_numbers-line.ensures.taken.1 (fits (codes "card") _ _ _ (omega arith) (search rules) (omega arith) (omega arith)))
      | in-Err w ↦ subst IsOk (sym w.line-is) (w.three_numbers-line-in-Err.ensures.taken.1 (fits (codes "fault") _ _ _ (omega arith) (omega arith) (omega arith) (omega arith)))
    ]
