-- Which log records have a text: those whose parts are read back, and no others.
use Rattle.std.proofs.Common.{◌≡◌, ℕ, ◌<◌, ◌^◌, Option, List, [], ◌∷◌, ◌++◌, Bool, true, false, IsTrue, refl, sym, ap, ◌∙◌}
use Rattle.std.proofs.lemmas.List.{append-nil}
use Rattle.tp_names.specs.declared.identifiers.Addr.{Addr}
use Rattle.tp_names.specs.declared.identifiers.NodeKey.{NodeKey}
use Rattle.tp_names.specs.declared.children.Child.{Child}
use Rattle.tp_names.specs.declared.outcome.Outcome.{Outcome}
use Rattle.tp_names.specs.declared.outcome.Report.{Report}
use Rattle.tp_names.specs.Bytes.{short_bytes, long_bytes, key_bytes, addr_bytes, outcome_bytes, report_bytes}
use Rattle.tp_names.specs.Reading.{Reader, make, ◌and◌, read_short, read_long, read_key, read_addr, read_outcome}
use Rattle.tp_logrec.specs.declared.record.LogRec.{LogRec}
use Rattle.tp_logrec.specs.declared.record.LogVersion.{LogVersion}
use Rattle.tp_logrec.specs.RecordText.{children_bytes, key_and_superior_bytes, record_bytes}
use Rattle.tp_logrec.specs.RecordReading.{read_children, read_branch_key, read_key_and_superior, read_judgement, boot_of, ready_of, heuristic_of, commit_of, damage_of, end_of, record_kinds, read_record}
use Rattle.tp_logrec.proofs.RecordWritten.{commit_spelled, damage_spelled}
use Rattle.tp_texts.specs.Texts.{Takes, IsGiven, HasRecordText}
use Rattle.tp_texts.proofs.TakenValues.{made, both, short_taken, long_taken, outcome_taken}
use Rattle.tp_texts.proofs.RecordParts.{Gives, gives_made, gives_and, code_gives}

-- ---- records that have a text

-- what a row of the table takes, after its code
kind_taken : (ver : LogVersion) (r : Reader LogRec) (text : List ℕ) (v : LogRec) (code : ℕ) → ((bytes : List ℕ) → read_record ver (code ∷ bytes) ≡ r bytes) → record_bytes ver v ≡ code ∷ text → Takes r text v → HasRecordText ver v
kind_taken ver r text v code row same x =
    record { text = ap (read_record ver) (same ∙ sym (append-nil (code ∷ text))) ∙ row (text ++ []) ∙ x.reads [] }

pub boot_text : (ver : LogVersion) (n : ℕ) → n < 2 ^ 64 → HasRecordText ver (LogRec.Boot n)
boot_text ver n h = kind_taken ver (make boot_of and read_long) (long_bytes n) (LogRec.Boot n) 1 (λ bytes. refl) refl (both (made boot_of) (long_taken n h))

pub ready_text : (ver : LogVersion) (n : ℕ) (k : NodeKey) (a : Addr) (cs : List Child) → n < 2 ^ 16 → Takes read_branch_key (key_bytes k) k → Takes read_addr (addr_bytes a) a → Takes (read_children ver) (children_bytes ver cs) cs
    → HasRecordText ver (LogRec.Ready n k a cs)
ready_text ver n k a cs h x y z =
    kind_taken ver (make ready_of and read_short and read_branch_key and read_addr and read_children ver) (((short_bytes n ++ key_bytes k) ++ addr_bytes a) ++ children_bytes ver cs) (LogRec.Ready n k a cs) 2 (λ bytes. refl) refl
    (both (both (both (both (made ready_of) (short_taken n h)) x) y) z)

pub heuristic_text : (ver : LogVersion) (n : ℕ) (k : NodeKey) (o : Outcome) → n < 2 ^ 16 → Takes read_branch_key (key_bytes k) k → HasRecordText ver (LogRec.Heuristic n k o)
heuristic_text ver n k o h x =
    kind_taken ver (make heuristic_of and read_short and read_branch_key and read_outcome) ((short_bytes n ++ key_bytes k) ++ outcome_bytes o) (LogRec.Heuristic n k o) 3 (λ bytes. refl) refl
    (both (both (both (made heuristic_of) (short_taken n h)) x) (outcome_taken o))

pub commit_text : (ver : LogVersion) (n : ℕ) (k : NodeKey) (a : Option Addr) (cs : List Child) → n < 2 ^ 16 → Takes read_key_and_superior (key_and_superior_bytes (k, a)) (k, a) → Takes (read_children ver) (children_bytes ver cs) cs
    → HasRecordText ver (LogRec.Commit n k a cs)
commit_text ver n k a cs h x y =
    kind_taken ver (make commit_of and read_short and read_key_and_superior and read_children ver) ((short_bytes n ++ key_and_superior_bytes (k, a)) ++ children_bytes ver cs) (LogRec.Commit n k a cs) 4 (λ bytes. refl) (commit_spelled ver n (k, a) cs)
    (both (both (both (made commit_of) (short_taken n h)) x) y)

pub damage_text : (ver : LogVersion) (n : ℕ) (k : NodeKey) (a : Option Addr) (o : Outcome) (r : Report) (cs : List Child) → n < 2 ^ 16 → Takes read_key_and_superior (key_and_superior_bytes (k, a)) (k, a)
    → Takes read_judgement (outcome_bytes o ++ report_bytes r) (o, r) → Takes (read_children ver) (children_bytes ver cs) cs → HasRecordText ver (LogRec.Damage n k a o r cs)
damage_text ver n k a o r cs h x y z =
    kind_taken ver (make damage_of and read_short and read_key_and_superior and read_judgement and read_children ver) (((short_bytes n ++ key_and_superior_bytes (k, a)) ++ (outcome_bytes o ++ report_bytes r)) ++ children_bytes ver cs) (LogRec.Damage n k a o r cs) 5 (λ bytes. refl) (damage_spelled ver n (k, a) (o, r) cs)
    (both (both (both (both (made damage_of) (short_taken n h)) x) y) z)

pub end_text : (ver : LogVersion) (n : ℕ) (k : NodeKey) (o : Outcome) → n < 2 ^ 16 → Takes read_key (key_bytes k) k → HasRecordText ver (LogRec.End n k o)
end_text ver n k o h x =
    kind_taken ver (make end_of and read_short and read_key and read_outcome) ((short_bytes n ++ key_bytes k) ++ outcome_bytes o) (LogRec.End n k o) 6 (λ bytes. refl) refl
    (both (both (both (made end_of) (short_taken n h)) x) (outcome_taken o))

-- ---- and no others

-- the parts of a record that not every value can be
abbrev PartsGiven : LogVersion → LogRec → Type 0
PartsGiven ver (LogRec.Boot n) = Unit {0}
PartsGiven ver (LogRec.Ready n k a cs) = IsGiven read_branch_key k × IsGiven (read_children ver) cs
PartsGiven ver (LogRec.Heuristic n k o) = IsGiven read_branch_key k
PartsGiven ver (LogRec.Commit n k a cs) = IsGiven read_key_and_superior (k, a) × IsGiven (read_children ver) cs
PartsGiven ver (LogRec.Damage n k a o r cs) = IsGiven read_key_and_superior (k, a) × (IsGiven read_judgement (o, r) × IsGiven (read_children ver) cs)
PartsGiven ver (LogRec.End n k o) = Unit {0}

-- so many parts
gives_1 : {A V : Type 0} (f : A → V) (ra : Reader A) (P : V → Type 0) → ((a : A) → IsGiven ra a → P (f a)) → Gives (make f and ra) P
gives_1 {A} f ra P h = gives_and (make f) ra P (gives_made f (λ g. (a : A) → IsGiven ra a → P (g a)) h)

gives_2 : {A B V : Type 0} (f : A → B → V) (ra : Reader A) (rb : Reader B) (P : V → Type 0) → ((a : A) → IsGiven ra a → (b : B) → IsGiven rb b → P (f a b)) → Gives (make f and ra and rb) P
gives_2 {A} {B} f ra rb P h = gives_and (make f and ra) rb P (gives_1 f ra (λ g. (b : B) → IsGiven rb b → P (g b)) h)

gives_3 : {A B C V : Type 0} (f : A → B → C → V) (ra : Reader A) (rb : Reader B) (rc : Reader C) (P : V → Type 0)
    → ((a : A) → IsGiven ra a → (b : B) → IsGiven rb b → (c : C) → IsGiven rc c → P (f a b c)) → Gives (make f and ra and rb and rc) P
gives_3 {A} {B} {C} f ra rb rc P h = gives_and (make f and ra and rb) rc P (gives_2 f ra rb (λ g. (c : C) → IsGiven rc c → P (g c)) h)

gives_4 : {A B C D V : Type 0} (f : A → B → C → D → V) (ra : Reader A) (rb : Reader B) (rc : Reader C) (rd : Reader D) (P : V → Type 0)
    → ((a : A) → IsGiven ra a → (b : B) → IsGiven rb b → (c : C) → IsGiven rc c → (d : D) → IsGiven rd d → P (f a b c d)) → Gives (make f and ra and rb and rc and rd) P
gives_4 {A} {B} {C} {D} f ra rb rc rd P h = gives_and (make f and ra and rb and rc) rd P (gives_3 f ra rb rc (λ g. (d : D) → IsGiven rd d → P (g d)) h)

parts_given : (ver : LogVersion) → Gives (read_record ver) (PartsGiven ver)
parts_given ver =
    let P : LogRec → Type 0 = PartsGiven ver in
    code_gives (record_kinds ver) P (
      gives_1 boot_of read_long P (λ n x. tt),
      (
        gives_4 ready_of read_short read_branch_key read_addr (read_children ver) P (λ n x k y a z cs u. (y, u)),
        (
          gives_3 heuristic_of read_short read_branch_key read_outcome P (λ n x k y o z. y),
          (
            gives_3 commit_of read_short read_key_and_superior (read_children ver) P (λ n x k y cs u. (y, u)),
            (
              gives_4 damage_of read_short read_key_and_superior read_judgement (read_children ver) P (λ n x k y j z cs u. (y, (z, u))),
              (gives_3 end_of read_short read_key read_outcome P (λ n x k y o z. tt), tt),
            ),
          ),
        ),
      ),
    )

given : (ver : LogVersion) (v : LogRec) → HasRecordText ver v → PartsGiven ver v
given ver v h = (parts_given ver).each v (record { bytes = record_bytes ver v; rest = []; gives = h.text })

pub ready_key_given : (ver : LogVersion) (n : ℕ) (k : NodeKey) (a : Addr) (cs : List Child) → HasRecordText ver (LogRec.Ready n k a cs) → IsGiven read_branch_key k
ready_key_given ver n k a cs h = (given ver (LogRec.Ready n k a cs) h).0

pub ready_children_given : (ver : LogVersion) (n : ℕ) (k : NodeKey) (a : Addr) (cs : List Child) → HasRecordText ver (LogRec.Ready n k a cs) → IsGiven (read_children ver) cs
ready_children_given ver n k a cs h = (given ver (LogRec.Ready n k a cs) h).1

pub heuristic_key_given : (ver : LogVersion) (n : ℕ) (k : NodeKey) (o : Outcome) → HasRecordText ver (LogRec.Heuristic n k o) → IsGiven read_branch_key k
heuristic_key_given ver n k o h = given ver (LogRec.Heuristic n k o) h

pub commit_key_given : (ver : LogVersion) (n : ℕ) (k : NodeKey) (a : Option Addr) (cs : List Child) → HasRecordText ver (LogRec.Commit n k a cs) → IsGiven read_key_and_superior (k, a)
commit_key_given ver n k a cs h = (given ver (LogRec.Commit n k a cs) h).0

pub commit_children_given : (ver : LogVersion) (n : ℕ) (k : NodeKey) (a : Option Addr) (cs : List Child) → HasRecordText ver (LogRec.Commit n k a cs) → IsGiven (read_children ver) cs
commit_children_given ver n k a cs h = (given ver (LogRec.Commit n k a cs) h).1

pub damage_key_given : (ver : LogVersion) (n : ℕ) (k : NodeKey) (a : Option Addr) (o : Outcome) (r : Report) (cs : List Child) → HasRecordText ver (LogRec.Damage n k a o r cs) → IsGiven read_key_and_superior (k, a)
damage_key_given ver n k a o r cs h = (given ver (LogRec.Damage n k a o r cs) h).0

pub damage_judgement_given : (ver : LogVersion) (n : ℕ) (k : NodeKey) (a : Option Addr) (o : Outcome) (r : Report) (cs : List Child) → HasRecordText ver (LogRec.Damage n k a o r cs) → IsGiven read_judgement (o, r)
damage_judgement_given ver n k a o r cs h = (given ver (LogRec.Damage n k a o r cs) h).1.0

pub damage_children_given : (ver : LogVersion) (n : ℕ) (k : NodeKey) (a : Option Addr) (o : Outcome) (r : Report) (cs : List Child) → HasRecordText ver (LogRec.Damage n k a o r cs) → IsGiven (read_children ver) cs
damage_children_given ver n k a o r cs h = (given ver (LogRec.Damage n k a o r cs) h).1.1

-- a part that is not read back
pub refused : {P : Type 0} (b : Bool) → b ≡ false → IsTrue b → P
refused b is_false is_true = absurd (let clash : false ≡ true = sym is_false ∙ is_true in cc)
