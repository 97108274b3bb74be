-- What is read from a text: records shaped as a text asks, and no more of a user's octets than fit.
use Rattle.std.proofs.Common.{◌≡◌, ◌≤◌, ℕ, Bool, true, false, refl, sym, subst, Option, Some, None, List, [], ◌∷◌, length}
use Rattle.tp_names.specs.declared.identifiers.BranchId.{BranchId}
use Rattle.tp_names.specs.declared.identifiers.Addr.{Addr}
use Rattle.tp_names.specs.declared.outcome.Outcome.{Outcome}
use Rattle.tp_names.specs.declared.outcome.Report.{Report}
use Rattle.tp_names.specs.Same.{is_name}
use Rattle.tp_names.specs.Reports.{is_report_none}
use Rattle.tp_names.specs.Reading.{make, ◌and◌, read_long, read_mark, read_aaid, read_branch, read_maybe, read_report, read_octets}
use Rattle.tp_names.proofs.Counts.{OctetsParts, octets_parts}
use Rattle.tp_logrec.specs.declared.record.LogRec.{LogRec}
use Rattle.tp_logrec.specs.declared.record.LogVersion.{LogVersion}
use Rattle.tp_logrec.specs.RecordReading.{read_some_branch, read_branch_and_superior, read_judgement}
use Rattle.tp_records.specs.declared.body.Event.{Event as Given}
use Rattle.tp_records.specs.declared.dialogue.DialogueRecord.{DialogueRecord}
use Rattle.tp_records.specs.declared.peer.PeerRecord.{PeerRecord}
use Rattle.tp_records.specs.BodyReading.{read_units, read_holder, dialogue_kinds, read_dialogue, read_state, peer_kinds, read_peer, whole, peer_in}
use Rattle.tp_texts.specs.Texts.{IsGiven, HasRecordText}
use Rattle.tp_texts.specs.PeerTexts.{HasFewOctets}
use Rattle.tp_texts.proofs.RecordParts.{Gives, gives_made, gives_and, code_gives, branch_key_given, no_branch_given, key_and_superior_given, branch_alone_given, superior_alone_given, no_harm_given, children_length}
use Rattle.tp_texts.proofs.RecordTexts.{ready_key_given, ready_children_given, heuristic_key_given, commit_key_given, commit_children_given, damage_key_given, damage_judgement_given, damage_children_given}
use Rattle.tp_model.specs.Parts.{Event, Entry}
use Rattle.tp_model.specs.History.{answer}
use Rattle.tp_model.specs.NodeRun.{Opening, origin_at, Refuses, Is, asked, AskedEvent}
use Rattle.tp_steps.proofs.every.Answers.{Accepted, accepted}
use Rattle.tp_texts.specs.Shapes.{has_superior, IsShaped, AreShaped}
use Rattle.tp_encodable.specs.Texts.{HaveTexts}
use Rattle.tp_encodable.specs.Sizes.{AreShort, IsShortRecord, BringsFew}
use Rattle.tp_texts.specs.PeerTexts.{CarriesFew}
use Rattle.tp_encodable.proofs.Short.{outputs_short}

-- ---- records of a log

branch_given : (b : Option BranchId) → IsGiven read_some_branch b → elim b as (λ _. Bool) [ None ↦ false | Some x ↦ true ] ≡ true
branch_given None x = absurd (no_branch_given x)
branch_given (Some b) x = refl

pair_given : (b : Option BranchId) (s : Option Addr) → IsGiven read_branch_and_superior (b, s) → has_superior s ≡ elim b as (λ _. Bool) [ None ↦ false | Some x ↦ true ]
pair_given None None x = refl
pair_given None (Some s) x = absurd (superior_alone_given s x)
pair_given (Some b) None x = absurd (branch_alone_given b x)
pair_given (Some b) (Some s) x = refl

harm_given : (o : Outcome) (r : Report) → IsGiven read_judgement (o, r) → is_report_none r ≡ false
harm_given o Report.None x = absurd (no_harm_given o x)
harm_given o Report.Hazard x = refl
harm_given o Report.Mix x = refl

shaped_of : (ver : LogVersion) (r : LogRec) → HasRecordText ver r → IsShaped ver r
shaped_of ver (LogRec.Boot n) h = tt
shaped_of ver (LogRec.Ready n k s cs) h = (branch_given k.branch (branch_key_given k (ready_key_given ver n k s cs h)), children_length ver cs (ready_children_given ver n k s cs h))
shaped_of ver (LogRec.Heuristic n k o) h = branch_given k.branch (branch_key_given k (heuristic_key_given ver n k o h))
shaped_of ver (LogRec.Commit n k s cs) h = (pair_given k.branch s (key_and_superior_given k s (commit_key_given ver n k s cs h)), children_length ver cs (commit_children_given ver n k s cs h))
shaped_of ver (LogRec.Damage n k s o r cs) h = (
  pair_given k.branch s (key_and_superior_given k s (damage_key_given ver n k s o r cs h)),
  harm_given o r (damage_judgement_given ver n k s o r cs h),
  children_length ver cs (damage_children_given ver n k s o r cs h),
)
shaped_of ver (LogRec.End n k o) h = tt

pub texts_shaped : (ver : LogVersion) (rs : List LogRec) → HaveTexts ver rs → AreShaped ver rs
texts_shaped ver [] h = tt
texts_shaped ver (r ∷ rs) h = (shaped_of ver r (record { text = h.0 }), texts_shaped ver rs h.1)

-- ---- records that come

few_given : (xs : List ℕ) → IsGiven (read_octets 1024) xs → length xs ≤ 1024
few_given xs x = let p : OctetsParts 1024 x.bytes xs x.rest = octets_parts 1024 x.bytes xs x.rest x.gives in p.fits

word : (w : DialogueRecord) → HasFewOctets w → Gives (make w) HasFewOctets
word w h = gives_made w HasFewOctets h

few_dialogue : Gives read_dialogue HasFewOctets
few_dialogue =
    code_gives dialogue_kinds HasFewOctets (
      word DialogueRecord.EndDialogue tt,
      (
        gives_and (make (λ xs. DialogueRecord.UserData xs)) (read_octets 1024) HasFewOctets (gives_made (λ xs. DialogueRecord.UserData xs) (λ g. (xs : List ℕ) → IsGiven (read_octets 1024) xs → HasFewOctets (g xs)) few_given),
        (
          word DialogueRecord.UError tt,
          (
            word DialogueRecord.UAbort tt,
            (
              word DialogueRecord.Grant tt,
              (
                word DialogueRecord.AskControl tt,
                (
                  word DialogueRecord.Handshake tt,
                  (
                    word DialogueRecord.HandshakeGrant tt,
                    (
                      word DialogueRecord.Response tt,
                      (
                        word DialogueRecord.DeferEnd tt,
                        (
                          word DialogueRecord.DeferGrant tt,
                          (
                            gives_and (make (λ a b h. DialogueRecord.Begin a b h) and read_aaid and read_branch) read_holder HasFewOctets
                                (gives_and (make (λ a b h. DialogueRecord.Begin a b h) and read_aaid) read_branch _ (gives_and (make (λ a b h. DialogueRecord.Begin a b h)) read_aaid _ (gives_made (λ a b h. DialogueRecord.Begin a b h) _ (λ a x b y h z. tt)))),
                            (
                              word DialogueRecord.Prepare tt,
                              (
                                word DialogueRecord.Ready tt,
                                (
                                  word DialogueRecord.Commit tt,
                                  (
                                    gives_and (make (λ r. DialogueRecord.Done r)) read_report HasFewOctets (gives_made (λ r. DialogueRecord.Done r) _ (λ r x. tt)),
                                    (
                                      word DialogueRecord.Rollback tt,
                                      (
                                        gives_and (make (λ r. DialogueRecord.RolledBack r)) read_report HasFewOctets (gives_made (λ r. DialogueRecord.RolledBack r) _ (λ r x. tt)),
                                        (word DialogueRecord.Left tt, (word DialogueRecord.LeftEnd tt, tt)),
                                      ),
                                    ),
                                  ),
                                ),
                              ),
                            ),
                          ),
                        ),
                      ),
                    ),
                  ),
                ),
              ),
            ),
          ),
        ),
      ),
    )

few_peer : Gives read_peer CarriesFew
few_peer =
    code_gives peer_kinds CarriesFew (
      gives_and (make (λ x u. PeerRecord.OpenAssoc x u) and read_mark) read_units CarriesFew (gives_and (make (λ x u. PeerRecord.OpenAssoc x u)) read_mark _ (gives_made (λ x u. PeerRecord.OpenAssoc x u) _ (λ x i u j. tt))),
      (
        gives_and (make (λ x y u. PeerRecord.AcceptAssoc x y u) and read_mark and read_mark) read_units CarriesFew
            (gives_and (make (λ x y u. PeerRecord.AcceptAssoc x y u) and read_mark) read_mark _ (gives_and (make (λ x y u. PeerRecord.AcceptAssoc x y u)) read_mark _ (gives_made (λ x y u. PeerRecord.AcceptAssoc x y u) _ (λ x i y j u k. tt)))),
        (
          gives_and (make (λ x y. PeerRecord.ShutAssoc x y) and read_mark) (read_maybe read_mark) CarriesFew (gives_and (make (λ x y. PeerRecord.ShutAssoc x y)) read_mark _ (gives_made (λ x y. PeerRecord.ShutAssoc x y) _ (λ x i y j. tt))),
          (
            gives_and (make (λ x y s r. PeerRecord.OnAssoc x y s r) and read_mark and read_mark and read_long) read_dialogue CarriesFew
                (gives_and (make (λ x y s r. PeerRecord.OnAssoc x y s r) and read_mark and read_mark) read_long _
                (gives_and (make (λ x y s r. PeerRecord.OnAssoc x y s r) and read_mark) read_mark _ (gives_and (make (λ x y s r. PeerRecord.OnAssoc x y s r)) read_mark _ (gives_made (λ x y s r. PeerRecord.OnAssoc x y s r) _ (λ x i y j s k r l. few_dialogue.each r l))))),
            (
              gives_and (make (λ a b. PeerRecord.RecReady a b) and read_aaid) read_branch CarriesFew (gives_and (make (λ a b. PeerRecord.RecReady a b)) read_aaid _ (gives_made (λ a b. PeerRecord.RecReady a b) _ (λ a x b y. tt))),
              (
                gives_and (make (λ a b. PeerRecord.RecCommit a b) and read_aaid) read_branch CarriesFew (gives_and (make (λ a b. PeerRecord.RecCommit a b)) read_aaid _ (gives_made (λ a b. PeerRecord.RecCommit a b) _ (λ a x b y. tt))),
                (
                  gives_and (make (λ a b s. PeerRecord.RecReply a b s) and read_aaid and read_branch) read_state CarriesFew
                      (gives_and (make (λ a b s. PeerRecord.RecReply a b s) and read_aaid) read_branch _ (gives_and (make (λ a b s. PeerRecord.RecReply a b s)) read_aaid _ (gives_made (λ a b s. PeerRecord.RecReply a b s) _ (λ a x b y s z. tt)))),
                  (gives_and (make (λ a b. PeerRecord.Forget a b) and read_aaid) read_branch CarriesFew (gives_and (make (λ a b. PeerRecord.Forget a b)) read_aaid _ (gives_made (λ a b. PeerRecord.Forget a b) _ (λ a x b y. tt))), tt),
                ),
              ),
            ),
          ),
        ),
      ),
    )

pub few_octets : (octets : List ℕ) (r : PeerRecord) → peer_in octets ≡ Some r → CarriesFew r
few_octets octets r h = go (read_peer octets) refl h
  where
    one : (v : PeerRecord) (rest : List ℕ) → read_peer octets ≡ Some (v, rest) → (elim rest as (λ _. Option PeerRecord) [ [] ↦ Some v | b ∷ bytes ↦ None ]) ≡ Some r → CarriesFew r
    one v [] i j = let same : v ≡ r = cc (j) in subst CarriesFew same (few_peer.each v (record { bytes = octets; rest = []; gives = i }))
    one v (b ∷ bytes) i j = absurd (cc (j))

    go : (o : Option (PeerRecord × List ℕ)) → read_peer octets ≡ o → whole o ≡ Some r → CarriesFew r
    go None i j = absurd (cc (j))
    go (Some p) i j = one p.0 p.1 i j

-- ---- what a site is given

brings_few : (o : Opening) (g : Given) (n : ℕ) (e : Event) → asked o g ≡ Is n e → BringsFew e
brings_few o (Given.Arrive from to octets) n e h = arrived (peer_in octets) refl (is_name to.site o.site) h
  where
    arrived : (r : Option PeerRecord) → peer_in octets ≡ r → (b : Bool) → (elim r as (λ _. AskedEvent) [ None ↦ Refuses 25 | Some x ↦ elim b as (λ _. AskedEvent) [ true ↦ Is to.node (Event.Arrive from x) | false ↦ Refuses 23 ] ]) ≡ Is n e → BringsFew e
    arrived None i b k = absurd (cc (k))
    arrived (Some x) i true k = let same : Event.Arrive from x ≡ e = cc (k) in subst BringsFew same (few_octets octets x i)
    arrived (Some x) i false k = absurd (cc (k))
brings_few o (Given.Declare m s) n e h = let same : Event.Declare s ≡ e = cc (h) in subst BringsFew same tt
brings_few o (Given.Do m r) n e h = let same : Event.Do r ≡ e = cc (h) in subst BringsFew same tt
brings_few o (Given.Lose m p) n e h = let same : Event.Lose p ≡ e = cc (h) in subst BringsFew same tt
brings_few o (Given.Heur m u) n e h = let same : Event.Heur u ≡ e = cc (h) in subst BringsFew same tt
brings_few o (Given.GiveUp m p) n e h = let same : Event.GiveUp p ≡ e = cc (h) in subst BringsFew same tt
brings_few o (Given.Retry m) n e h = let same : Event.Retry ≡ e = cc (h) in subst BringsFew same tt
brings_few o (Given.Purge m) n e h = let same : Event.Purge ≡ e = cc (h) in subst BringsFew same tt

pub entry_short : (o : Opening) (g : Given) (n : ℕ) (e : Event) (h : List Entry) (y : Entry) → asked o g ≡ Is n e → (answer (origin_at o n) h e).entry ≡ Some y → AreShort y.outs
entry_short o g n e h y is at =
    let a : Accepted (origin_at o n) h e y = accepted (origin_at o n) h e y at in
    let few : BringsFew a.event = subst IsShortRecord (sym a.brings) (brings_few o g n e is) in
    subst (λ (z : Entry). AreShort z.outs) (sym a.is) (outputs_short (origin_at o n).who _ a.event a.ok few)
