use Rattle.std.proofs.Common.{codes, ok_or, sym, ap, rules}
use Rattle.std.proofs.lemmas.Slice.Eq.{text_from_reads}
use Rattle.syntax.specs.Words.{topic_of}
use Rattle.syntax.proofs.head.TopicTryFromRefSliceU8.try_from.Goals as goal

pub returns-in-signal : goal.returns-in-signal
returns-in-signal c = ap (λ w. ok_or (topic_of w) (record {})) (sym (text_from_reads c.args.word.now (codes "signal") (search rules) (search rules)))
