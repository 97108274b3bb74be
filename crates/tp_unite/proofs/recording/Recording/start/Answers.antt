-- It is of the first site, of the one that is played, or of another.
use Rattle.std.proofs.Common.{◌≡◌, true, false, ◌∙◌, sym, refl}
use Rattle.tp_unite.proofs.Heard.{first_whole, holds, other_whole}
use Rattle.tp_unite.proofs.Answering.{first_start, next_start, other_start}
use Rattle.tp_unite.proofs.recording.Recording.start.Goals as goal

pub returns-in_default : goal.returns-in_default
returns-in_default c = λ t is.
    let old = c.args.self.now in
    let none = sym c.take.ensures.value ∙ c.in_default.is in
    let whole = first_whole t old is none in
    first_start c.args.at t c.args.name old c.open.new.self c.open.result is none (c.open.ensures t (record { places = whole.places; arranged = whole.arranged; apart = whole.apart; lanes = whole.lanes; trees = whole.trees }))

pub returns-then-is_name : goal.returns-then-is_name
returns-then-is_name c = λ t is.
    let old = c.args.self.now in
    let p = c.in-Some.playing in
    let h = holds t old p is (sym c.take.ensures.value ∙ c.in-Some.is) in
    let same : c.is_name.result ≡ true = c.if-is_name.true in
    next_start c.args.at t c.args.name old c.go_on.new.self p h c.go_on.result (sym c.is_name.ensures ∙ same) (c.go_on.ensures t h.first h.rest (record { places = h.left.places; arranged = h.left.arranged; apart = h.left.apart; playing = h.left.playing; lanes = h.left.lanes; trees = h.left.trees }))

pub returns : goal.returns
returns c = λ t is.
    let old = c.args.self.now in
    let p = c.in-Some.playing in
    let h = holds t old p is (sym c.take.ensures.value ∙ c.in-Some.is) in
    let other : c.is_name.result ≡ false = c.if-is_name.false in
    other_start c.args.at t c.args.name old c.open-2.new.self p h c.open-2.result (sym c.is_name.ensures ∙ other) (c.open-2.ensures t (other_whole t old (record { places = old.places; lanes = c.put.new.lanes; playing = c.take.new.self; trees = old.trees }) p h refl c.in_ok-put.ensures refl))
