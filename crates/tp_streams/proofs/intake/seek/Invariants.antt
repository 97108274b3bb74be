use Rattle.std.proofs.Common.{◌≡◌, ◌≤◌, ◌-◌, true, length}
use Rattle.tp_framing.specs.Frames.{next_in, is_next}
use Rattle.tp_streams.specs.Taken.{together}
use Rattle.tp_streams.proofs.intake.seek.Given as goal

abbrev pub invariant-loop-body : goal.invariant-loop-body
invariant-loop-body g l = record {
  handed : l.feed.handed ≡ l.fn.feed.handed;
  same : together l.feed.pending (g.S.Source.left l.source) ≡ together l.fn.feed.pending (g.S.Source.left l.fn.source);
  few : length l.feed.pending ≤ 10241;
  unread : is_next (next_in l.fn.feed.pending) ≡ true → (l.feed ≡ l.fn.feed) × (l.source ≡ l.fn.source);
  kept : g.S.Source.fault_count l.fn.source ≤ g.S.Source.fault_count l.source;
}

-- what is at hand before a reading on is part of one frame
abbrev pub decreases-loop-body : goal.decreases-loop-body
decreases-loop-body g l = 2050 - length l.feed.pending
