use Rattle.std.proofs.Common.{codes, ok_or, sym, ap, rules}
use Rattle.std.proofs.lemmas.Slice.Eq.{text_from_reads}
use Rattle.syntax.specs.Words.{head_of}
use Rattle.syntax.proofs.head.HeadTryFromRefSliceU8.try_from.Goals as goal

pub returns-in-always : goal.returns-in-always
returns-in-always c = ap (λ w. ok_or (head_of w) (record {})) (sym (text_from_reads c.args.word.now (codes "always") (search rules) (search rules)))
