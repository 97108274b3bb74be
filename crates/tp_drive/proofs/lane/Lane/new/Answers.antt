use Rattle.std.proofs.Common.{refl, ap, ◌∙◌}
use Rattle.tp_shared_log.specs.Shares.{Shared}
use Rattle.tp_drive.proofs.Begins.{started_on}
use Rattle.tp_drive.proofs.lane.Lane.new.Goals as goal

-- the site has done nothing since it started
pub returns-clause-fresh : goal.returns-clause-fresh
returns-clause-fresh g c =
    let o = g.L.Begun.opening in
    let on = started_on g.L.Stood.stood g.L.Stood.wide o c.args.name c.args.boot c.args.share c.requires.begun c.requires.share.0 in
    let resumed = c.in_ok-resume.ensures.resumed in
    record {
      did = record { at = c.in_ok-resume.ensures.at o on; answers = c.new.ensures.items };
      going = refl;
      unshut = resumed.shut;
      one_part = record { part = ap (λ (s : Shared). s.parts) resumed.keeper ∙ c.requires.share.1; stake = ap (λ (s : Shared). s.stake_parts) resumed.keeper ∙ c.requires.share.2 };
    }
