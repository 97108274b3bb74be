use Rattle.tp_commit.proofs.Passages.{cut_off}
use Rattle.tp_commit.proofs.Touched.{said_off, heard_off, said_grant, heard_grant, counted_alike, woken_alike, cleared_alike}
use Rattle.tp_commit.proofs.laws.an_event_changes_its_own_arc.Goals as goal

pub returns : goal.returns
returns c = record {
  lost = λ arcs p. cut_off p arcs;
  end_said = said_off;
  end_heard = heard_off;
  grant_said = said_grant;
  grant_heard = heard_grant;
  counted = counted_alike;
  woken = woken_alike;
  cleared = cleared_alike;
}
