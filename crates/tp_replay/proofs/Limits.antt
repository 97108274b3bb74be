-- A limit that is reached in a line may end a run.
use Rattle.std.proofs.Common.{◌<◌, ℕ}
use Rattle.tp_model.specs.declared.verdict.What.{What}
use Rattle.tp_replay.specs.Status.{IsLimitAt}

pub limit_at : (what : What) (at : ℕ) → 0 < at → IsLimitAt what at
limit_at What.Schedule at h = h
limit_at What.Sites at h = h
limit_at What.Nodes at h = h
limit_at What.Frames at h = h
limit_at What.Answers at h = h
limit_at What.Events at h = h
limit_at What.Log at h = tt
limit_at What.Boots at h = tt
