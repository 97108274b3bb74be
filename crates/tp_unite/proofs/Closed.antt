-- The lines of a deployment are the closing lines of the run that it is.
use Rattle.std.proofs.Common.{◌≡◌, ℕ, sym, ◌∙◌, subst, List}
use Rattle.tp_model.specs.declared.out_line.OutLine.{OutLine}
use Rattle.tp_model.specs.Happenings.{Happening, run}
use Rattle.tp_deployments.specs.Deployments.{Deed, Place}
use Rattle.tp_deployments.specs.RunOf.{IsRunOf}
use Rattle.tp_laws.specs.Whole.{AllPromised}
use Rattle.tp_laws.proofs.Deployed.{deployments_keep}
use Rattle.tp_weaving.specs.declared.lane.Lane.{Lane}
use Rattle.tp_weaving.specs.Frames.{Record, Recording as Told}
use Rattle.tp_weaving.specs.Parts.{AreApart}
use Rattle.tp_weaving.specs.Weaving.{AreLanes, Weaves}
use Rattle.tp_world_sites.specs.Told.{closing_at}
use Rattle.tp_closing.specs.declared.trees.Trees.{Trees}
use Rattle.tp_closing.specs.Closing.{closing_told, AreClosing}
use Rattle.tp_closing.specs.Seen.{all_begun}
use Rattle.tp_closing.specs.Told.{TellTrees}
use Rattle.tp_closing.proofs.EveryRun.{closes_every_run}
use Rattle.tp_closing.proofs.Lines.{lines_are_told}
use Rattle.tp_unite.specs.declared.recording.Recording.{Recording}
use Rattle.tp_unite.specs.Recording.{IsHeard}
use Rattle.tp_unite.specs.Verdicts.{IsWhole, ClosesDeployment}

pub closes : (bytes : List ℕ) (c : Recording) (xs : List Lane) (v : Trees) (lines : List OutLine) → IsWhole bytes c → ((t : Told) → IsHeard t c → AreLanes t.places t.records xs × TellTrees t.places t.records v)
    → ((qs : List Place) (rs : List Record) → AreApart rs → AreLanes qs rs xs → Weaves qs rs) → lines ≡ closing_at v.slots.items (all_begun v.states.items) → ClosesDeployment bytes lines
closes bytes c xs v lines whole close weave is = record {
  told = t;
  tells = whole.tells;
  lines_are = told;
  every = λ ds es woven r. subst (λ (l : List OutLine). AreClosing l (run es)) (sym told) (closes_every_run t ds es whole.heard.arranged whole.heard.apart woven r);
  deeds = w.deeds;
  woven = w.are;
  happenings = r.0;
  is_run = r.1;
  keeps = r.2;
}
  where
    t : Told
    t = whole.told

    both : AreLanes t.places t.records xs × TellTrees t.places t.records v
    both = close t whole.heard

    w : Weaves t.places t.records
    w = weave t.places t.records whole.heard.apart both.0

    r : (es : List Happening) × IsRunOf t.places w.deeds (run es) × AllPromised (run es)
    r = deployments_keep t.places w.deeds whole.heard.arranged w.fits

    told : lines ≡ closing_told t
    told = is ∙ lines_are_told t w.deeds r.0 v whole.heard.arranged whole.heard.apart w.are r.1 both.1
