-- The record for which a keeper is asked has a text.
use Rattle.std.proofs.Common.{◌≡◌, ℕ, Bool, true, Option, Result, List, subst}
use Rattle.tp_logrec.specs.declared.record.LogRec.{LogRec}
use Rattle.tp_records.specs.declared.body.Event.{Event as Given}
use Rattle.tp_model.specs.NodeRun.{Opening, asked, node_of}
use Rattle.tp_journal.specs.Keeping.{Standing}
use Rattle.tp_site.specs.declared.faults.SiteFault.{SiteFault}
use Rattle.tp_site.specs.Site.{Site}
use Rattle.tp_site.specs.Events.{IsAt, opening_at, rec_asked, record_after}
use Rattle.tp_site.specs.Shaped.{HasTextIfAsked}
use Rattle.tp_site.proofs.Stepping.{record_is_asked}

-- after a list of events
pub after_text : {K A : Type 0} (standing : K → Standing) (mine : ℕ → Bool) (o : Opening) (gs : List Given) (old : Site K) (g : Given) (wide : Bool) (result : Result A SiteFault) → IsAt standing mine o gs old → mine (node_of g) ≡ true
    → HasTextIfAsked wide (rec_asked old (asked (opening_at old.nodes.site) g)) result → HasTextIfAsked wide (record_after o gs g) result
after_text standing mine o gs old g wide result at own text =
    subst (λ (r : Option LogRec). HasTextIfAsked wide r result) (record_is_asked standing mine o gs old g at own) text
