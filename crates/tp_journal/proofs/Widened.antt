-- A record that has a text in version 1 has one in version 2.
-- The two differ in the count of children alone, so what stands before the count is read alike, and so are the children.
use Rattle.std.proofs.Common.{◌≡◌, ℕ, zero, suc, ◌+◌, ◌*◌, ◌%◌, ◌≤◌, ◌<◌, ◌^◌, nat_le, Bool, true, false, Option, Some, List, [], ◌∷◌, ◌++◌, length, refl, sym, ap, ◌∙◌, subst, arith, length-append}
use Rattle.std.proofs.lemmas.Bool.Decides.{nat_tests}
use Rattle.std.specs.List.{AllByRecursion}
use Rattle.tp_names.specs.declared.children.Child.{Child}
use Rattle.tp_names.specs.Bytes.{is_site_name, site_bytes, mark_bytes, addr_bytes, branch_bytes, child_bytes, each_child_bytes, short_bytes}
use Rattle.tp_names.specs.Reading.{Reader, make, ◌and◌, that, chosen_by, then_read, number_from, read_byte, read_short, read_long, read_many, read_bytes, read_site, read_mark, read_branch, read_addr, read_child, mark_of, branch_of, addr_of, child_of}
use Rattle.tp_names.specs.Places.{Front, IsSteady}
use Rattle.tp_names.proofs.Sequences.{some_pair, steady_make, steady_and, Both, both_parts, both_read}
use Rattle.tp_names.proofs.Choices.{Chosen, chosen_parts, bytes_parts}
use Rattle.tp_names.proofs.Passing.{Passed, that_parts, that_read}
use Rattle.tp_names.proofs.Numbers.{short_back, short_scan}
use Rattle.tp_names.proofs.Values.{addr_scan}
use Rattle.tp_logrec.specs.declared.record.LogRec.{LogRec}
use Rattle.tp_logrec.specs.declared.record.LogVersion.{LogVersion}
use Rattle.tp_logrec.specs.RecordText.{children_bytes, superior_bytes}
use Rattle.tp_logrec.specs.RecordReading.{read_children, read_branch_key, read_key_and_superior, read_judgement, ready_of, commit_of, damage_of}
use Rattle.tp_logrec.proofs.RecordScans.{branch_key_scan, key_and_superior_scan, judgement_scan}
use Rattle.tp_names.specs.Bytes.{key_bytes, outcome_bytes, report_bytes}
use Rattle.tp_journal.specs.Records.{HasText}
use Rattle.tp_journal.proofs.Sizes.{many_long}
use Rattle.tp_journal.proofs.Unique.{same_front, same_back}

-- ---- as many bytes are taken as are written

abbrev Takes : {A : Type 0} → (A → List ℕ) → Reader A → Type 0
Takes {A} write r = (bytes : List ℕ) (v : A) (rest : List ℕ) → r bytes ≡ Some (v, rest) → length bytes ≡ length (write v) + length rest

abbrev TakesSo : {A : Type 0} → ℕ → Reader A → Type 0
TakesSo {A} n r = (bytes : List ℕ) (v : A) (rest : List ℕ) → r bytes ≡ Some (v, rest) → length bytes ≡ n + length rest

make_takes : {A : Type 0} (a : A) → TakesSo 0 (make a)
make_takes a bytes v rest h = omega (arith, ap length (some_pair a v bytes rest h).1)

and_takes : {A B : Type 0} (m n : ℕ) (f : Reader (A → B)) (r : Reader A) → TakesSo m f → TakesSo n r → TakesSo (m + n) (f and r)
and_takes m n f r first second bytes v rest h =
    let b = both_parts (f bytes) r v rest h in
    omega (arith, first bytes b.made b.middle b.first, second b.middle b.part rest b.second)

number_takes : (k n : ℕ) → TakesSo k (number_from k n)
number_takes zero n bytes v rest h = omega (arith, ap length (some_pair n v bytes rest h).1)
number_takes (suc k) n [] v rest h = absurd cc
number_takes (suc k) n (b ∷ bytes) v rest h = omega (arith, number_takes k (n * 256 + b) bytes v rest h)

mark_takes : TakesSo 18 read_mark
mark_takes = and_takes 10 8 _ read_long (and_takes 8 2 _ read_short (and_takes 0 8 (make mark_of) read_long (make_takes mark_of) (number_takes 8 0)) (number_takes 2 0)) (number_takes 8 0)

site_takes : Takes site_bytes read_site
site_takes bytes v rest h =
    let p : Passed is_site_name (chosen_by read_byte read_bytes) bytes v rest = that_parts is_site_name (chosen_by read_byte read_bytes) bytes v rest h in
    let c : Chosen (read_byte bytes) read_bytes v rest = chosen_parts (read_byte bytes) read_bytes v rest p.read in
    let parts = bytes_parts c.choice c.middle v rest c.second in
    omega (arith, number_takes 1 0 bytes c.choice c.middle c.first, ap length parts.0, length-append v rest)

-- a value of two parts
pair_takes : {A B V : Type 0} (write : V → List ℕ) (g : A → B → V) (wa : A → List ℕ) (wb : B → List ℕ) (ra : Reader A) (rb : Reader B)
    → ((a : A) (b : B) → length (write (g a b)) ≡ length (wa a) + length (wb b)) → Takes wa ra → Takes wb rb → Takes write (make g and ra and rb)
pair_takes {A} {B} {V} write g wa wb ra rb size first second bytes v rest h =
    let b : Both ((make g and ra) bytes) rb v rest = both_parts ((make g and ra) bytes) rb v rest h in
    let a : Both (make g bytes) ra b.made b.middle = both_parts (make g bytes) ra b.made b.middle b.first in
    let e = some_pair g a.made bytes a.middle a.first in
    let value : g a.part b.part ≡ v = ap (λ (f : A → B → V). f a.part b.part) e.0 ∙ ap (λ (f : B → V). f b.part) (sym a.value) ∙ sym b.value in
    omega (arith, ap length e.1, first a.middle a.part b.middle a.second, second b.middle b.part rest b.second, size a.part b.part, ap (λ w. length (write w)) value)

child_takes : Takes child_bytes read_child
child_takes =
    pair_takes child_bytes child_of addr_bytes branch_bytes read_addr read_branch (λ a b. length-append (addr_bytes a) (branch_bytes b))
    (pair_takes addr_bytes addr_of site_bytes short_bytes read_site read_short (λ s n. length-append (site_bytes s) (short_bytes n)) site_takes (λ bytes v rest h. omega (arith, number_takes 2 0 bytes v rest h)))
    (pair_takes branch_bytes branch_of site_bytes mark_bytes read_site read_mark (λ s m. length-append (site_bytes s) (mark_bytes m)) site_takes (λ bytes v rest h. omega (arith, mark_takes bytes v rest h)))

many_take : (k : ℕ) → Takes each_child_bytes (read_many read_child k)
many_take zero bytes v rest h =
    let nothing : List Child = [] in
    let e = some_pair nothing v bytes rest h in
    omega (arith, ap length e.1, ap (λ (w : List Child). length (each_child_bytes w)) e.0)
many_take (suc k) bytes v rest h =
    let cons : Child → List Child → List Child = λ a rest. a ∷ rest in
    let b : Both ((make cons and read_child) bytes) (read_many read_child k) v rest = both_parts ((make cons and read_child) bytes) (read_many read_child k) v rest h in
    let a : Both (make cons bytes) read_child b.made b.middle = both_parts (make cons bytes) read_child b.made b.middle b.first in
    let e = some_pair cons a.made bytes a.middle a.first in
    let value : a.part ∷ b.part ≡ v = ap (λ (g : Child → List Child → List Child). g a.part b.part) e.0 ∙ ap (λ (g : List Child → List Child). g b.part) (sym a.value) ∙ sym b.value in
    omega (arith, ap length e.1, child_takes a.middle a.part b.middle a.second, many_take k b.middle b.part rest b.second, length-append (child_bytes a.part) (each_child_bytes b.part), ap (λ (w : List Child). length (each_child_bytes w)) value)

-- ---- children

children_long : (bytes : List ℕ) (cs : List Child) → read_children LogVersion.One bytes ≡ Some (cs, []) → length bytes ≡ length (children_bytes LogVersion.One cs)
children_long bytes cs h =
    let c : Chosen (that (λ n. nat_le n 32) read_byte bytes) (read_many read_child) cs [] = chosen_parts (that (λ n. nat_le n 32) read_byte bytes) (read_many read_child) cs [] h in
    let p : Passed (λ n. nat_le n 32) read_byte bytes c.choice c.middle = that_parts (λ n. nat_le n 32) read_byte bytes c.choice c.middle c.first in
    omega (arith, number_takes 1 0 bytes c.choice c.middle p.read, many_take c.choice c.middle cs [] c.second)

few : (n m : ℕ) → nat_le n 32 ≡ true → m ≡ n → (nat_le m 256 ≡ true) × (m < 2 ^ 16)
few n m is same = let le : n ≤ 32 = grind (arith, nat_tests) in let more : m ≤ 256 = omega arith in (grind (arith, nat_tests), omega arith)

children_widened : (cs : List Child) → read_children LogVersion.One (children_bytes LogVersion.One cs) ≡ Some (cs, []) → read_children LogVersion.Two (children_bytes LogVersion.Two cs) ≡ Some (cs, [])
children_widened cs h =
    let bytes = children_bytes LogVersion.One cs in
    let each = each_child_bytes cs in
    let c : Chosen (that (λ n. nat_le n 32) read_byte bytes) (read_many read_child) cs [] = chosen_parts (that (λ n. nat_le n 32) read_byte bytes) (read_many read_child) cs [] h in
    let p : Passed (λ n. nat_le n 32) read_byte bytes c.choice c.middle = that_parts (λ n. nat_le n 32) read_byte bytes c.choice c.middle c.first in
    let e = some_pair (0 * 256 + length cs % 256) c.choice each c.middle p.read in
    let count : length cs ≡ c.choice = many_long read_child c.choice c.middle cs [] c.second in
    let small = few c.choice (length cs) p.passes count in
    let counted : that (λ n. nat_le n 256) read_short (children_bytes LogVersion.Two cs) ≡ Some (length cs, each) = that_read (λ n. nat_le n 256) read_short (children_bytes LogVersion.Two cs) (length cs) each (short_back (length cs) each small.1) small.0 in
    ap (λ (o : Option (ℕ × List ℕ)). then_read o (read_many read_child)) counted
    ∙ ap (λ (n : ℕ). read_many read_child n each) count ∙ ap (λ (w : List ℕ). read_many read_child c.choice w) e.1 ∙ c.second

-- ---- what every value that is read has

abbrev Every : {A : Type 0} → (A → Type 0) → Reader A → Type 0
Every {A} Q r = (bytes : List ℕ) (v : A) (rest : List ℕ) → r bytes ≡ Some (v, rest) → Q v

every_make : {A : Type 0} (Q : A → Type 0) (a : A) → Q a → Every Q (make a)
every_make Q a has bytes v rest h = subst Q (some_pair a v bytes rest h).0 has

every_and : {A B : Type 0} (Q : B → Type 0) (f : Reader (A → B)) (r : Reader A) → Every (λ g. (a : A) → Q (g a)) f → Every Q (f and r)
every_and Q f r each bytes v rest h =
    let b = both_parts (f bytes) r v rest h in
    subst Q (sym b.value) (each bytes b.made b.middle b.first b.part)

-- ---- records

abbrev children_in : LogRec → List Child
children_in (LogRec.Boot n) = []
children_in (LogRec.Ready n k a cs) = cs
children_in (LogRec.Heuristic n k o) = []
children_in (LogRec.Commit n k a cs) = cs
children_in (LogRec.Damage n k a o r cs) = cs
children_in (LogRec.End n k o) = []

-- the record has the children that it is made with
abbrev Makes : (List Child → LogRec) → Type 0
Makes g = (cs : List Child) → children_in (g cs) ≡ cs

row_widened : (f : Reader (List Child → LogRec)) → IsSteady f → Every Makes f → (front : List ℕ) (v : LogRec)
    → (f and read_children LogVersion.One) (front ++ children_bytes LogVersion.One (children_in v)) ≡ Some (v, [])
    → (f and read_children LogVersion.Two) (front ++ children_bytes LogVersion.Two (children_in v)) ≡ Some (v, [])
row_widened f steady makes front v h =
    let cs = children_in v in
    let one = children_bytes LogVersion.One cs in
    let two = children_bytes LogVersion.Two cs in
    let b : Both (f (front ++ one)) (read_children LogVersion.One) v [] = both_parts (f (front ++ one)) (read_children LogVersion.One) v [] h in
    let is : b.part ≡ cs = sym (makes (front ++ one) b.made b.middle b.first b.part) ∙ ap children_in (sym b.value) in
    let x : Front f (front ++ one) b.made b.middle = steady.fronts (front ++ one) b.made b.middle b.first in
    let behind : length b.middle ≡ length one = children_long b.middle b.part b.second ∙ ap (λ (w : List Child). length (children_bytes LogVersion.One w)) is in
    let long : length x.text ≡ length front = omega (arith, behind, ap length x.parts, length-append x.text b.middle, length-append front one) in
    let text : x.text ≡ front = same_front x.text front b.middle one long (sym x.parts) in
    let middle : b.middle ≡ one = same_back x.text front b.middle one long (sym x.parts) in
    let read : read_children LogVersion.One one ≡ Some (cs, []) = ap (read_children LogVersion.One) (sym middle) ∙ b.second ∙ ap (λ (w : List Child). Some (w, [])) is in
    both_read f (read_children LogVersion.Two) (front ++ two) two [] b.made cs (ap (λ (w : List ℕ). f (w ++ two)) (sym text) ∙ x.again two) (children_widened cs read)
    ∙ ap (λ (w : LogRec). Some (w, [])) (ap b.made (sym is) ∙ sym b.value)

ready_front : IsSteady (make ready_of and read_short and read_branch_key and read_addr)
ready_front = steady_and _ read_addr (steady_and _ read_branch_key (steady_and (make ready_of) read_short (steady_make ready_of) short_scan.steady) branch_key_scan.steady) addr_scan.steady

ready_makes : Every Makes (make ready_of and read_short and read_branch_key and read_addr)
ready_makes = every_and Makes _ read_addr (every_and (λ g. (a : _) → Makes (g a)) _ read_branch_key (every_and (λ g. (k : _) (a : _) → Makes (g k a)) (make ready_of) read_short (every_make (λ g. (n : _) (k : _) (a : _) → Makes (g n k a)) ready_of (λ n k a cs. refl))))

commit_front : IsSteady (make commit_of and read_short and read_key_and_superior)
commit_front = steady_and _ read_key_and_superior (steady_and (make commit_of) read_short (steady_make commit_of) short_scan.steady) key_and_superior_scan.steady

commit_makes : Every Makes (make commit_of and read_short and read_key_and_superior)
commit_makes = every_and Makes _ read_key_and_superior (every_and (λ g. (k : _) → Makes (g k)) (make commit_of) read_short (every_make (λ g. (n : _) (k : _) → Makes (g n k)) commit_of (λ n k cs. refl)))

damage_front : IsSteady (make damage_of and read_short and read_key_and_superior and read_judgement)
damage_front = steady_and _ read_judgement (steady_and _ read_key_and_superior (steady_and (make damage_of) read_short (steady_make damage_of) short_scan.steady) key_and_superior_scan.steady) judgement_scan.steady

damage_makes : Every Makes (make damage_of and read_short and read_key_and_superior and read_judgement)
damage_makes = every_and Makes _ read_judgement (every_and (λ g. (j : _) → Makes (g j)) _ read_key_and_superior (every_and (λ g. (k : _) (j : _) → Makes (g k j)) (make damage_of) read_short (every_make (λ g. (n : _) (k : _) (j : _) → Makes (g n k j)) damage_of (λ n k j cs. refl))))

text_widened : (r : LogRec) → HasText false r → HasText true r
text_widened (LogRec.Boot n) h = h
text_widened (LogRec.Ready n k a cs) h = row_widened _ ready_front ready_makes (short_bytes n ++ key_bytes k ++ addr_bytes a) (LogRec.Ready n k a cs) h
text_widened (LogRec.Heuristic n k o) h = h
text_widened (LogRec.Commit n k a cs) h = row_widened _ commit_front commit_makes (short_bytes n ++ key_bytes k ++ superior_bytes a) (LogRec.Commit n k a cs) h
text_widened (LogRec.Damage n k a o r cs) h = row_widened _ damage_front damage_makes (short_bytes n ++ key_bytes k ++ superior_bytes a ++ (outcome_bytes o ++ report_bytes r)) (LogRec.Damage n k a o r cs) h
text_widened (LogRec.End n k o) h = h

pub texts_widened : (wide : Bool) (rs : List LogRec) → AllByRecursion (HasText wide) rs → AllByRecursion (HasText true) rs
texts_widened true rs all = all
texts_widened false [] all = tt
texts_widened false (r ∷ rs) all = (text_widened r all.0, texts_widened false rs all.1)
