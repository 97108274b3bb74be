-- No process started yet, and the place fits.
use Rattle.std.proofs.Common.{◌≡◌, ◌≤◌, Bool, List, Some, true, ap, sym, ◌∙◌, subst, arith, length}
use Rattle.tp_deployments.specs.Deployments.{Place}
use Rattle.tp_weaving.specs.Places.{Adds}
use Rattle.tp_unite.proofs.Heard.{none_of, placed_so}
use Rattle.tp_unite.proofs.Answering.{place_fits}
use Rattle.tp_unite.proofs.recording.Recording.place.Goals as goal

pub returns : goal.returns
returns c = λ t is.
    let old = c.args.self.now in
    let new = c.see.new.self in
    let fits : c.in_ok-add.field-0 ≡ true = grind (arith, c.if-not-branch.false) in
    let none = none_of old.playing (sym c.is_some.ensures ∙ c.if-is_some.false) in
    let added = subst (λ (b : Bool). Adds old.places c.args.node c.args.under c.args.site b c.add.new.self) fits c.in_ok-add.ensures in
    let few : length old.places ≤ 255 = omega (arith, c.len.ensures, c.if-len-ge-MOST_NODES.false) in (
      place_fits c.args.at t c.args.node c.args.under c.args.site old c.add.new.self is none few added,
      placed_so t c.args.node c.args.under c.args.site old new is none
          (added ∙ ap (λ (qs : List Place). Some qs) (sym c.see.ensures.places)) c.see.ensures.lanes c.see.ensures.playing
          (λ qs q one addr tell. c.in_ok-see.ensures.trees qs q (sym c.see.ensures.places ∙ one) addr tell),
    )
