use Rattle.std.proofs.Common.{◌≡◌, ◌+◌, ◌-◌, ◌<◌, Bool, true, false, Some, ◌++◌, [], ◌∷◌, cond, length, refl, sym, ap, ◌∙◌, arith}
use Rattle.std.specs.Prelude.{◌&&◌}
use Rattle.indexmap.specs.IndexSet.{contains}
use Rattle.tp_logrec.specs.Order.{owner_of, is_owner, is_damage}
use Rattle.tp_log_tools.proofs.Finds.{later_step, found_step}
use Rattle.tp_log_tools.proofs.checking.find.Goals as goal
use Rattle.tp_log_tools.proofs.checking.find.Goals.{else-is_last-via-then-is_last+else-is_damage, else-is_last-via-else-is_last}

neither : (a b : Bool) → b ≡ false → (a && b) ≡ false
neither true b e = e
neither false b e = cc

pub loop-i-preserved-then-is_damage : goal.loop-i-preserved-then-is_damage
loop-i-preserved-then-is_damage c =
    let rs = c.args.list.now in
    let n = c.loop-i.i in
    let within = c.loop-i.invariant.within in
    let below : n - 1 < length rs = omega (arith, c.loop-i-test.true, within) in
    let next : n ≡ n - 1 + 1 = omega (arith, c.loop-i-test.true) in
    let p = c.in-Some.owner in
    let some : owner_of c.index-list-i.result ≡ Some p = sym c.owner.ensures ∙ c.in-Some.is in
    let put = c.in_ok-is_last.ensures {u = tt} in
    let found : (c.in_ok-is_last.is_last && c.is_damage.result) ≡ true = ap (λ t. t && c.is_damage.result) c.if-is_last.true ∙ c.if-is_damage.true in
    record {
      within = omega (arith, within);
      later = later_step rs n (n - 1) c.index-list-i.result p next below c.index-list-i.is some (contains is_owner c.loop-i.later) (contains is_owner c.insert.new.self) c.loop-i.invariant.later put.updates.0;
      found = found_step rs n (n - 1) c.index-list-i.result p next below c.index-list-i.is some c.in_ok-is_last.is_last c.is_damage.result (contains is_owner c.loop-i.later p) c.loop-i.found.items c.push.new.self.items
          put.added (c.loop-i.invariant.later p) c.is_damage.ensures c.loop-i.invariant.found ((c.in_ok-push.ensures {u = tt}).items ∙ sym (ap (λ t. cond t (c.loop-i.found.items ++ (n - 1) ∷ []) c.loop-i.found.items) found));
    }

pub loop-i-preserved-else-is_last : goal.loop-i-preserved-else-is_last
loop-i-preserved-else-is_last c =
    let rs = c.args.list.now in
    let n = c.loop-i.i in
    let r = c.index-list-i.result in
    let within = c.loop-i.invariant.within in
    let below : n - 1 < length rs = omega (arith, c.loop-i-test.true, within) in
    let next : n ≡ n - 1 + 1 = omega (arith, c.loop-i-test.true) in
    let p = c.in-Some.owner in
    let some : owner_of r ≡ Some p = sym c.owner.ensures ∙ c.in-Some.is in
    let put = c.in_ok-is_last.ensures {u = tt} in
    let was = c.loop-i.found.items in
    let not_found : (c.in_ok-is_last.is_last && is_damage r) ≡ false = elim c.else-is_last.branch [
      | else-is_last-via-then-is_last+else-is_damage w ↦ neither c.in_ok-is_last.is_last (is_damage r) (sym w.is_damage.ensures ∙ w.if-is_damage.false)
      | else-is_last-via-else-is_last w ↦ ap (λ t. t && is_damage r) w.if-is_last.false
    ] in
    record {
      within = omega (arith, within);
      later = later_step rs n (n - 1) r p next below c.index-list-i.is some (contains is_owner c.loop-i.later) (contains is_owner c.insert.new.self) c.loop-i.invariant.later put.updates.0;
      found = found_step rs n (n - 1) r p next below c.index-list-i.is some c.in_ok-is_last.is_last (is_damage r) (contains is_owner c.loop-i.later p) was was
          put.added (c.loop-i.invariant.later p) refl c.loop-i.invariant.found (sym (ap (λ t. cond t (was ++ (n - 1) ∷ []) was) not_found));
    }
