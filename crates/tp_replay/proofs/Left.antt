-- What a reader of lines answers of the lines that are left, and how far it reads.
use Rattle.std.proofs.Common.{◌≡◌, ◌+◌, ◌≤◌, ℕ, Bool, true, false, nat_lt, List, [], ◌∷◌, length, Option, Some, None, Result, Ok, refl, ap, sym, ◌∙◌, arith}
use Rattle.std.specs.Prelude.{option_map}
use Rattle.tp_model.specs.Transcript.{RawLine, raw_lines, content, octets_taken}
use Rattle.tp_schedule.specs.AtHand.{together}
use Rattle.tp_schedule.specs.LinesLeft.{Place, answer, first_of, judged, most_read, unless_read, IsFor, IsAhead, HandsOut, Leaves, lines_left}
use Rattle.tp_schedule.specs.declared.lines_fault.LinesFault.{LinesFault}
use Rattle.tp_replay.specs.Transcribing.{size_of, ReadsTo}
use Rattle.tp_replay.proofs.Cuts.{raw_none, size_of_lines}

-- where the source tells what it has left
record Told (p : Place) (left : Option (List ℕ)) (ls : List RawLine) : Type 0 where
  all : List ℕ
  told : together p.held left ≡ Some all
  lines : raw_lines all ≡ ls

told : (p : Place) (left : Option (List ℕ)) (ls : List RawLine) → lines_left p left ≡ Some ls → Told p left ls
told p left ls is = go (together p.held left) refl
  where
    go : (t : Option (List ℕ)) → together p.held left ≡ t → Told p left ls
    go None e = absurd (let no : None ≡ Some ls = sym (ap (option_map raw_lines) e) ∙ is in grind (arith, no))
    go (Some all) e = record { all = all; told = e; lines = let same : Some (raw_lines all) ≡ Some ls = sym (ap (option_map raw_lines) e) ∙ is in grind (arith, same) }

-- the answer is that for the first of the lines, but where the source failed
pub answers_first : (p : Place) (left : Option (List ℕ)) (ls : List RawLine) (r : Result (Option (List ℕ)) LinesFault) → p.fault ≡ None → lines_left p left ≡ Some ls
    → IsFor (answer p) (together p.held left) r → r ≡ unless_read r (first_of p.before ls)
answers_first p left ls r unfaulted is for_these =
    let t = told p left ls is in
    let now = for_these t.all t.told in
    now ∙ ap (unless_read r) (answered t)
  where
    answered : (t : Told p left ls) → answer p t.all ≡ first_of p.before ls
    answered t = rw (unfaulted, t.lines) refl

pub none_left : (p : Place) (left : Option (List ℕ)) (ls : List RawLine) → p.fault ≡ None → lines_left p left ≡ Some ls
    → IsFor (answer p) (together p.held left) (Ok None) → ls ≡ []
none_left p left ls unfaulted is for_these = go ls (answers_first p left ls (Ok None) unfaulted is for_these)
  where
    judged_some : (l : RawLine) → Ok None ≡ judged p.before l → ⊥
    judged_some l e = cases (nat_lt 1048576 (p.before + octets_taken l)) refl (nat_lt 8192 (length (content l))) refl
      where
        cases : (a : Bool) → nat_lt 1048576 (p.before + octets_taken l) ≡ a → (b : Bool) → nat_lt 8192 (length (content l)) ≡ b → ⊥
        cases true x b y = grind (arith, e, x)
        cases false x true y = grind (arith, e, x, y)
        cases false x false y = grind (arith, e, x, y)

    go : (ls : List RawLine) → Ok None ≡ first_of p.before ls → ls ≡ []
    go [] e = refl
    go (l ∷ ls) e = absurd (judged_some l e)

-- and nothing is left to read
pub none_unread : (p : Place) (left : Option (List ℕ)) (ls : List RawLine) (new : Place) (unread : Option (List ℕ)) → lines_left p left ≡ Some ls → ls ≡ []
    → Leaves p left (Ok None) new unread → unread ≡ Some []
none_unread p left ls new unread is none h = go unread (ap (λ v. lines_left v unread) (sym h.0) ∙ h.1 ∙ is ∙ ap Some none)
  where
    go : (t : Option (List ℕ)) → lines_left (record p { held = [] }) t ≡ Some [] → t ≡ Some []
    go None e = absurd (grind (arith, e))
    go (Some xs) e = ap Some (raw_none xs (grind (arith, e)))

-- a line that is handed out is within the limits
within_limit : (before : ℕ) (l : RawLine) (text : List ℕ) → Ok (Some text) ≡ judged before l → nat_lt 1048576 (before + octets_taken l) ≡ false
within_limit before l text e = cases (nat_lt 1048576 (before + octets_taken l)) refl
  where
    cases : (a : Bool) → nat_lt 1048576 (before + octets_taken l) ≡ a → nat_lt 1048576 (before + octets_taken l) ≡ false
    cases true x = absurd (grind (arith, e, x))
    cases false x = x

-- the first line and the others
pub record Parted (p : Place) (left : Option (List ℕ)) (ls : List RawLine) (text : List ℕ) (new : Place) (unread : Option (List ℕ)) : Type 0 where
  pub first : RawLine
  pub rest : List RawLine
  pub is : ls ≡ first ∷ rest
  pub is_text : content first ≡ text
  pub within : nat_lt 1048576 (p.before + octets_taken first) ≡ false
  pub passed : new.before ≡ p.before + octets_taken first
  pub fault : new.fault ≡ None
  pub others : lines_left new unread ≡ Some rest

pub parted : (p : Place) (left : Option (List ℕ)) (ls : List RawLine) (text : List ℕ) (new : Place) (unread : Option (List ℕ)) → p.fault ≡ None → lines_left p left ≡ Some ls
    → IsFor (answer p) (together p.held left) (Ok (Some text)) → HandsOut p left text new unread → Parted p left ls text new unread
parted p left ls text new unread unfaulted is for_these out = go (lines_left new unread) refl
  where
    all : (more : Option (List RawLine)) → lines_left new unread ≡ more → Some ls ≡ option_map (λ xs. out.line ∷ xs) more
    all more e = sym is ∙ out.lines ∙ ap (option_map (λ xs. out.line ∷ xs)) e

    with_rest : (rest : List RawLine) → lines_left new unread ≡ Some rest → ls ≡ out.line ∷ rest → Parted p left ls text new unread
    with_rest rest e same = record {
      first = out.line;
      rest = rest;
      is = same;
      is_text = out.is;
      within = within_limit p.before out.line text (answers_first p left ls (Ok (Some text)) unfaulted is for_these ∙ ap (first_of p.before) same);
      passed = out.before;
      fault = out.fault;
      others = e;
    }

    go : (more : Option (List RawLine)) → lines_left new unread ≡ more → Parted p left ls text new unread
    go None e = absurd (let no : Some ls ≡ None = all None e in grind (arith, no))
    go (Some rest) e = with_rest rest e (let same : Some ls ≡ Some (out.line ∷ rest) = all (Some rest) e in grind (arith, same))

-- ---- how far the source was read

pub reads_to : (p : Place) (left : Option (List ℕ)) (ls : List RawLine) (unread : Option (List ℕ)) (r : Result (Option (List ℕ)) LinesFault) → lines_left p left ≡ Some ls → IsAhead (together p.held left) unread r → ReadsTo (most_read ls r) ls unread
reads_to p left ls unread r is ahead = λ rest e.
    let t : Told p left ls = told p left ls is in
    let size : size_of ls ≡ length t.all = ap size_of (sym t.lines) ∙ size_of_lines t.all in
    let read : length t.all ≤ length rest + most_read (raw_lines t.all) r = ahead t.all rest t.told e in
    let same : most_read (raw_lines t.all) r ≡ most_read ls r = ap (λ (xs : List RawLine). most_read xs r) t.lines in
    omega (arith, size, read, same)
