-- An aaid, a branch and a recovery state of a given length.
use Rattle.std.proofs.Common.{Some, ◌≡◌, ℕ, suc, ◌≤◌, ◌+◌, ◌-◌, ◌⊎◌, List, length, refl, ap, ◌∙◌, arith}
use Rattle.tp_names.specs.declared.identifiers.Mark.{Mark}
use Rattle.tp_names.specs.declared.identifiers.Aaid.{Aaid}
use Rattle.tp_names.specs.declared.identifiers.BranchId.{BranchId}
use Rattle.tp_records.specs.declared.peer.RecState.{RecState}
use Rattle.tp_records.specs.BodyReading.{read_state}
use Rattle.tp_names.specs.Reading.{Reader, make, ◌and◌, chosen_by, read_mark, read_aaid, read_branch, aaid_of, branch_of}
use Rattle.tp_names.specs.Scanning.{Scan, scan_make, ◌with◌, then_scan, scan_mark, scan_site_within}
use Rattle.tp_names.specs.Places.{AreBytes, IsScan}
use Rattle.tp_names.proofs.Sequences.{some_pair, behind_bytes, Both, both_parts, both_read, scan_made, scan_both}
use Rattle.tp_names.proofs.Values.{mark_scan}
use Rattle.tp_names.proofs.Sites.{read_site_within, site_within_scan}
use Rattle.tp_records.specs.SentScanning.{scan_reply_of, scan_state_of}
use Rattle.tp_names.proofs.Choices.{Chosen, chosen_parts}
use Rattle.tp_records.proofs.Choosing.{chosen_within, chosen_read}
use Rattle.tp_records.proofs.Agreeing.{Sized}
use Rattle.tp_records.proofs.NamesOf.{Named, named, NamedWithin, named_within, within_from, Names, names_len, names_read, names_from, names_steady}
use Rattle.tp_records.proofs.StateOf.{read_state_of, state_scan_of, state_sized, StateLength, state_length}

abbrev pub behind_superior : ℕ → List ℕ → Reader (Unit {0})
behind_superior j b = make (λ n s. tt) and read_mark and read_state_of (j - length b)

abbrev pub read_superior : ℕ → Mark → Reader (Unit {0})
read_superior j m = chosen_by (read_site_within (j - 2) (j - 1)) (behind_superior j)

abbrev pub read_owner_mark : ℕ → List ℕ → Reader (Unit {0})
read_owner_mark k a = chosen_by read_mark (read_superior (k - length a))

abbrev pub read_reply_of : ℕ → Reader (Unit {0})
read_reply_of k = chosen_by (read_site_within (k - 18) (k - 2)) (read_owner_mark k)

abbrev scan_behind : ℕ → List ℕ → Scan (Unit {0})
scan_behind j b rest = (scan_make (λ n s. tt) with scan_mark with scan_state_of (j - length b)) rest

abbrev scan_superior : ℕ → Mark → Scan (Unit {0})
scan_superior j m rest = then_scan (scan_site_within (j - 2) (j - 1) rest) (scan_behind j)

abbrev scan_owner_mark : ℕ → List ℕ → Scan (Unit {0})
scan_owner_mark k a rest = then_scan (scan_mark rest) (scan_superior (k - length a))

one_or_two : (j n : ℕ) → 2 ≤ j → j - 2 ≤ n → n ≤ j - 1 → (j - n ≡ 1) ⊎ (j - n ≡ 2)
one_or_two j n low from to = grind arith

superior_scan : (j : ℕ) (m : Mark) → 2 ≤ j → j ≤ 18 → IsScan (read_superior j m) (scan_superior j m)
superior_scan j m low high =
    chosen_within (read_site_within (j - 2) (j - 1)) (behind_superior j) (scan_site_within (j - 2) (j - 1)) (scan_behind j)
    (site_within_scan (j - 2) (j - 1) (record { len = suc (j - 3); least = omega arith; most = omega (arith, high); from = omega arith; to = omega (arith, low) }))
    (record {
      next = λ bytes b rest h.
          let x : NamedWithin (j - 2) (j - 1) bytes b rest = named_within (j - 2) (j - 1) bytes b rest h in
          scan_both (make (λ n s. tt) and read_mark) (read_state_of (j - length b)) (scan_make (λ n s. tt) with scan_mark) (scan_state_of (j - length b))
          (scan_both (make (λ n s. tt)) read_mark (scan_make (λ n s. tt)) scan_mark (scan_made (λ n s. tt)) mark_scan)
          (state_scan_of (j - length b) (one_or_two j (length b) low x.from x.to));
    })

pub reply_scan : (k : ℕ) → 3 ≤ k → k ≤ 34 → IsScan (read_reply_of k) (scan_reply_of k)
unfolding scan_reply_of
reply_scan k low high =
    chosen_within (read_site_within (k - 18) (k - 2)) (read_owner_mark k) (scan_site_within (k - 18) (k - 2)) (scan_owner_mark k)
    (site_within_scan (k - 18) (k - 2) (record { len = suc (k - 19); least = omega arith; most = omega (arith, high); from = omega arith; to = omega (arith, low) }))
    (record {
      next = λ bytes a rest h.
          let x : NamedWithin (k - 18) (k - 2) bytes a rest = named_within (k - 18) (k - 2) bytes a rest h in
          chosen_within read_mark (read_superior (k - length a)) scan_mark (scan_superior (k - length a)) mark_scan
          (record { next = λ more m after g. superior_scan (k - length a) m (omega (arith, x.to, x.name.least, low)) (omega (arith, x.from)) });
    })

-- ---- the replies of that length

abbrev any_end : Mark → Unit {0} → Unit {0}
any_end n s = tt

pub reply_sized : {V : Type 0} (g : Aaid → BranchId → RecState → V) (k : ℕ) → Sized (38 + k) (make g and read_aaid and read_branch and read_state) (read_reply_of k)
reply_sized {V} g k = record { there = there; back = back }
  where
    there : (bytes : List ℕ) (w : Unit {0}) (rest : List ℕ) → read_reply_of k bytes ≡ Some (w, rest)
        → (v : V) × (((make g and read_aaid and read_branch and read_state) bytes ≡ Some (v, rest)) × (length bytes ≡ 38 + k + length rest))
    there bytes w rest h =
        let c : Chosen (read_site_within (k - 18) (k - 2) bytes) (read_owner_mark k) w rest = chosen_parts (read_site_within (k - 18) (k - 2) bytes) (read_owner_mark k) w rest h in
        let x : NamedWithin (k - 18) (k - 2) bytes c.choice c.middle = named_within (k - 18) (k - 2) bytes c.choice c.middle c.first in
        let j : ℕ = k - length c.choice in
        let d : Chosen (read_mark c.middle) (read_superior j) w rest = chosen_parts (read_mark c.middle) (read_superior j) w rest c.second in
        let e : Chosen (read_site_within (j - 2) (j - 1) d.middle) (behind_superior j) w rest = chosen_parts (read_site_within (j - 2) (j - 1) d.middle) (behind_superior j) w rest d.second in
        let y : NamedWithin (j - 2) (j - 1) d.middle e.choice e.middle = named_within (j - 2) (j - 1) d.middle e.choice e.middle e.first in
        let i : ℕ = j - length e.choice in
        let b : Both ((make any_end and read_mark) e.middle) (read_state_of i) w rest = both_parts ((make any_end and read_mark) e.middle) (read_state_of i) w rest e.second in
        let a : Both (make any_end e.middle) read_mark b.made b.middle = both_parts (make any_end e.middle) read_mark b.made b.middle b.first in
        let f = some_pair any_end a.made e.middle a.middle a.first in
        let n : Names bytes b.middle = record {
          owner = c.choice;
          behind_owner = c.middle;
          mark = d.choice;
          behind_mark = d.middle;
          superior = e.choice;
          behind_superior = e.middle;
          last = a.part;
          owner_read = x.read;
          mark_read = d.first;
          superior_read = y.read;
          last_read = ap read_mark f.1 ∙ a.second;
        } in
        let q = (state_sized i (omega (arith, y.to, y.name.least))).there b.middle b.part rest b.second in
        let made : RecState → V = g (aaid_of c.choice d.choice) (branch_of e.choice a.part) in (
          made q.0,
          (
            both_read (make g and read_aaid and read_branch) read_state bytes b.middle rest made q.0 (names_read g bytes b.middle n) q.1.0,
            omega (arith, names_len bytes b.middle n, q.1.1, x.to, x.name.least, y.to, y.name.least),
          ),
        )

    back : (bytes : List ℕ) (v : V) (rest : List ℕ) → AreBytes bytes → (make g and read_aaid and read_branch and read_state) bytes ≡ Some (v, rest) → length bytes ≡ 38 + k + length rest
        → (w : Unit {0}) × (read_reply_of k bytes ≡ Some (w, rest))
    back bytes v rest fits h len =
        let b : Both ((make g and read_aaid and read_branch) bytes) read_state v rest = both_parts ((make g and read_aaid and read_branch) bytes) read_state v rest h in
        let x : Names bytes b.middle = names_from g bytes b.made b.middle b.first in
        let m : Named bytes x.owner x.behind_owner = named bytes x.owner x.behind_owner x.owner_read in
        let n : Named x.behind_mark x.superior x.behind_superior = named x.behind_mark x.superior x.behind_superior x.superior_read in
        let l = names_len bytes b.middle x in
        let behind : AreBytes b.middle = behind_bytes (make g and read_aaid and read_branch) bytes b.made b.middle ((names_steady g).fronts bytes b.made b.middle b.first) fits in
        let s : StateLength b.middle rest = state_length b.middle b.part rest behind b.second in
        let j : ℕ = k - length x.owner in
        let i : ℕ = j - length x.superior in
        let q = (state_sized i (omega (arith, l, len, s.least))).back b.middle b.part rest behind b.second (omega (arith, l, len, s.least)) in
        let first : read_site_within (k - 18) (k - 2) bytes ≡ Some (x.owner, x.behind_owner) =
        within_from (k - 18) (k - 2) bytes x.owner x.behind_owner x.owner_read (omega (arith, l, len, n.most, s.most)) (omega (arith, l, len, n.least, s.least)) in
        let second : read_site_within (j - 2) (j - 1) x.behind_mark ≡ Some (x.superior, x.behind_superior) =
        within_from (j - 2) (j - 1) x.behind_mark x.superior x.behind_superior x.superior_read (omega (arith, l, len, s.most)) (omega (arith, l, len, s.least)) in (
          tt,
          chosen_read (read_site_within (k - 18) (k - 2)) (read_owner_mark k) bytes x.behind_owner x.owner first
              ∙ chosen_read read_mark (read_superior j) x.behind_owner x.behind_mark x.mark x.mark_read
              ∙ chosen_read (read_site_within (j - 2) (j - 1)) (behind_superior j) x.behind_mark x.behind_superior x.superior second
              ∙ both_read (make any_end and read_mark) (read_state_of i) x.behind_superior b.middle rest (any_end x.last) q.0
              (both_read (make any_end) read_mark x.behind_superior x.behind_superior b.middle any_end x.last refl x.last_read) q.1,
        )
