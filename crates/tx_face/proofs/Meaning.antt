-- Committed at the root of a tree means that every staying node committed.
use Rattle.std.proofs.Common.{◌≡◌, ◌&&◌, ◌||◌, Bool, true, false, refl, ap, sym, subst, ◌∙◌, if◌then◌else◌, ◌⊎◌, inl, inr, Option, Some, None, List, [], ◌∷◌, ◌++◌}
use Rattle.tp_names.specs.declared.identifiers.Aaid.{Aaid}
use Rattle.tp_names.specs.declared.outcome.Report.{Report}
use Rattle.tp_names.specs.Same.{is_aaid}
use Rattle.tp_names.specs.Reports.{is_report_none}
use Rattle.tp_names.proofs.Sames.{aaid_self}
use Rattle.tp_records.specs.declared.indication.Indication.{Indication}
use Rattle.tp_model.specs.Parts.{Origin, Out, Tell, Send, Entry, Current}
use Rattle.tp_model.specs.Transactions.{aaid_of}
use Rattle.tp_model.specs.History.{digest}
use Rattle.tp_model.specs.Outcomes.{is_now, is_member, tells_complete_none, completed_none}
use Rattle.tp_model.specs.Happenings.{Happening, run}
use Rattle.tp_model.specs.World.{Node}
use Rattle.tp_model.specs.Promises.{IsIn}
use Rattle.tp_laws.proofs.Promises.{headline}
use Rattle.tx_face.specs.declared.code.Code.{Code}
use Rattle.tx_face.specs.Codes.{committed, rolled_back, code_told, code_of, has_code, tree_now, last_completed}
use Rattle.tx_face.specs.Face.{MeansAll}

-- ---- what some outputs tell

-- once a completion is told there is a code
told_some : (outs : List Out) (k : Code) → has_code (code_told outs (Some k)) ≡ true
told_some [] k = refl
told_some (Send to r ∷ outs) k = told_some outs k
told_some (Tell (Indication.CommitComplete r) ∷ outs) k = told_some outs (committed r)
told_some (Tell (Indication.RollbackComplete r) ∷ outs) k = told_some outs (rolled_back r)
told_some (Tell _ ∷ outs) k = told_some outs k

-- where none is told the code stays
told_nothing : (outs : List Out) (c : Option Code) → has_code (code_told outs None) ≡ false → code_told outs c ≡ c
told_nothing [] c h = refl
told_nothing (Send to r ∷ outs) c h = told_nothing outs c h
told_nothing (Tell (Indication.CommitComplete r) ∷ outs) c h = absurd (cc (h, told_some outs (committed r)))
told_nothing (Tell (Indication.RollbackComplete r) ∷ outs) c h = absurd (cc (h, told_some outs (rolled_back r)))
told_nothing (Tell _ ∷ outs) c h = told_nothing outs c h

-- where one is told, the code from before is no matter
told_anew : (outs : List Out) (b c : Option Code) → has_code (code_told outs None) ≡ true → code_told outs b ≡ code_told outs c
told_anew [] b c h = absurd (cc (h))
told_anew (Send to r ∷ outs) b c h = told_anew outs b c h
told_anew (Tell (Indication.CommitComplete r) ∷ outs) b c h = refl
told_anew (Tell (Indication.RollbackComplete r) ∷ outs) b c h = refl
told_anew (Tell _ ∷ outs) b c h = told_anew outs b c h

-- Committed is told by a commitment that is complete with no report
clear : (outs : List Out) (c : Option Code) → code_told outs c ≡ Some Code.Committed → (c ≡ Some Code.Committed) ⊎ (tells_complete_none outs ≡ true)
clear [] c h = inl h
clear (Send to r ∷ outs) c h = clear outs c h
clear (Tell (Indication.CommitComplete r) ∷ outs) c h = step r (clear outs (Some (committed r)) h)
  where
    step : (r : Report) → (Some (committed r) ≡ Some Code.Committed) ⊎ (tells_complete_none outs ≡ true) → (c ≡ Some Code.Committed) ⊎ ((is_report_none r || tells_complete_none outs) ≡ true)
    step Report.None i = inr refl
    step Report.Hazard (inl i) = absurd (cc (i))
    step Report.Hazard (inr i) = inr i
    step Report.Mix (inl i) = absurd (cc (i))
    step Report.Mix (inr i) = inr i
clear (Tell (Indication.RollbackComplete r) ∷ outs) c h = step r (clear outs (Some (rolled_back r)) h)
  where
    step : (r : Report) → (Some (rolled_back r) ≡ Some Code.Committed) ⊎ (tells_complete_none outs ≡ true) → (c ≡ Some Code.Committed) ⊎ (tells_complete_none outs ≡ true)
    step r (inr i) = inr i
    step Report.None (inl i) = absurd (cc (i))
    step Report.Hazard (inl i) = absurd (cc (i))
    step Report.Mix (inl i) = absurd (cc (i))
clear (Tell _ ∷ outs) c h = clear outs c h

-- ---- the tree

-- what was current when the last completion was told was complete with no report
record IsClear (o : Origin) (t : Aaid) (h : List Entry) : Type 0 where
  member : is_member o t h ≡ true
  clear : completed_none o t h ≡ true

more : (o : Origin) (t : Aaid) (e : Entry) (h : List Entry) → IsClear o t h → IsClear o t (e ∷ h)
more o t e h k = record { member = or_right (is_now t (digest o (e ∷ h)).current) (is_member o t h) k.member; clear = or_right (is_now t (digest o h).current && tells_complete_none e.outs) (completed_none o t h) k.clear }
  where
    or_right : (a b : Bool) → b ≡ true → (a || b) ≡ true
    or_right true b i = refl
    or_right false b i = i

now_member : (o : Origin) (t : Aaid) (h : List Entry) → is_now t (digest o h).current ≡ true → is_member o t h ≡ true
now_member o t [] i = i
now_member o t (e ∷ h) i = rw i refl

tree_is : (t : Aaid) (c : Option Current) → tree_now c ≡ Some t → is_now t c ≡ true
tree_is t None i = absurd (cc (i))
tree_is t (Some c) i = let same : aaid_of c.key ≡ t = cc (i) in ap (λ (u : Aaid). is_aaid t u) same ∙ aaid_self t

first : (o : Origin) (t : Aaid) (e : Entry) (h : List Entry) → is_now t (digest o h).current ≡ true → tells_complete_none e.outs ≡ true → IsClear o t (e ∷ h)
first o t e h now tells = record { member = (more_member (is_now t (digest o (e ∷ h)).current)); clear = rw (now, tells) refl }
  where
    more_member : (a : Bool) → (a || is_member o t h) ≡ true
    more_member true = refl
    more_member false = now_member o t h now

clear_since : (o : Origin) (t : Aaid) (older since : List Entry) → last_completed o older since ≡ Some t → code_of since ≡ Some Code.Committed → IsClear o t (since ++ older)
clear_since o t older [] last code = absurd (cc (last))
clear_since o t older (e ∷ h) last code = go (has_code (code_told e.outs None)) refl (clear_since o t older h)
  where
    go : (b : Bool) → has_code (code_told e.outs None) ≡ b → (last_completed o older h ≡ Some t → code_of h ≡ Some Code.Committed → IsClear o t (h ++ older)) → IsClear o t (e ∷ (h ++ older))
    go true i rest = told (clear e.outs None (told_anew e.outs None (code_of h) i ∙ code))
      where
        now : tree_now (digest o (h ++ older)).current ≡ Some t
        now = sym (ap (λ (b : Bool). if b then tree_now (digest o (h ++ older)).current else last_completed o older h) i) ∙ last

        told : (◌≡◌ {A = Option Code} None (Some Code.Committed)) ⊎ (tells_complete_none e.outs ≡ true) → IsClear o t (e ∷ (h ++ older))
        told (inl j) = absurd (cc (j))
        told (inr j) = first o t e (h ++ older) (tree_is t (digest o (h ++ older)).current now) j
    go false i rest = more o t e (h ++ older) (rest (sym (ap (λ (b : Bool). if b then tree_now (digest o (h ++ older)).current else last_completed o older h) i) ∙ last) (sym (told_nothing e.outs (code_of h) i) ∙ code))

pub means_all : (es : List Happening) (x : Node) (since older : List Entry) → IsIn (run es) x → x.history ≡ since ++ older → code_of since ≡ Some Code.Committed → MeansAll (run es) x since older
means_all es x since older here history code = λ t last root.
    let k : IsClear x.origin t x.history = subst (IsClear x.origin t) (sym history) (clear_since x.origin t older since last code) in
    (headline es).report_free t x (record { here = here; of_tree = k.member }) root k.clear
