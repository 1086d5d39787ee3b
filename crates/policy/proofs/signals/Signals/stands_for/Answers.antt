use Rattle.std.proofs.Common.{sym, ◌∙◌}
use Rattle.std.proofs.lemmas.Bool.{eqb-true}
use Rattle.policy.proofs.Tested.{stands_throughout}
use Rattle.policy.proofs.signals.Signals.stands_for.Goals.{then-s-t, else-s-t}
use Rattle.policy.proofs.signals.Signals.stands_for.Goals as goal

pub returns-then-is_session : goal.returns-then-is_session
returns-then-is_session c = elim c.if-s-t.branch [
  | then-s-t w ↦ stands_throughout c.args.self.upright c.args.self.inverted c.args.s.now c.args.t.now _ w.if-s-t.true (w.is_session.ensures.0 (sym w.value-is ∙ c.if-is_session.true)) c.covers_throughout.ensures
  | else-s-t w ↦ absurd (w.if-s-t.false (eqb-true _ _ (sym w.value-is ∙ c.if-is_session.true)))
]
