-- What was written of a text, but for the pending bytes at its end.
use Rattle.std.proofs.Common.{◌≡◌, ◌++◌, ℕ, List, [], Option, Some, None, refl, ap, subst, sym, ◌∙◌, append_assoc, arith}
use Rattle.tp_streams.specs.Written.{IsPrefix, WritesPrefix}
use Rattle.tp_replay.specs.Written.{WroteBut}
use Rattle.tp_replay.proofs.Prefixes.{prefix_after, prefix_none}

-- more is put at its end
pub wrote_more : (before text pending more : List ℕ) (now : Option (List ℕ)) → WroteBut before text pending now → WroteBut before (text ++ more) (pending ++ more) now
wrote_more before text pending more now h = (h.0, ap (λ t. t ++ more) h.1 ∙ append_assoc h.0 pending more, h.2)

-- the pending bytes are written, but for the rest
pub wrote_some : (before text pending rest : List ℕ) (now then : Option (List ℕ)) → WroteBut before text pending now → ((all : List ℕ) → now ≡ Some all → WroteBut all pending rest then)
    → WroteBut before text rest then
wrote_some before text pending rest now then h writes =
    let g = writes (before ++ h.0) h.2 in
    (h.0 ++ g.0, h.1 ∙ ap (λ t. h.0 ++ t) g.1 ∙ sym (append_assoc h.0 g.0 rest), g.2 ∙ ap Some (append_assoc before h.0 g.0))

-- to the end
pub wrote_whole : (before text pending : List ℕ) (now then : Option (List ℕ)) → WroteBut before text pending now → ((all : List ℕ) → now ≡ Some all → then ≡ Some (all ++ pending))
    → then ≡ Some (before ++ text)
wrote_whole before text pending now then h writes =
    writes (before ++ h.0) h.2 ∙ ap Some (append_assoc before h.0 pending ∙ ap (λ t. before ++ t) (sym h.1))

-- in part
pub wrote_prefix : (before text pending : List ℕ) (now then : Option (List ℕ)) → WroteBut before text pending now → ((all : List ℕ) → now ≡ Some all → WritesPrefix all pending then)
    → WritesPrefix before text then
wrote_prefix before text pending now then h writes =
    let g = writes (before ++ h.0) h.2 in
    (h.0 ++ g.0, subst (IsPrefix (h.0 ++ g.0)) (sym h.1) (prefix_after h.0 pending g.0 g.1), g.2 ∙ ap Some (append_assoc before h.0 g.0))

-- ---- what was written in part

-- that part of it, where the sink tells what was written
pub record Part (text : List ℕ) (old new : Option (List ℕ)) : Type 0 where
  pub part : List ℕ
  pub prefix : IsPrefix part text
  pub written : (before : List ℕ) → old ≡ Some before → new ≡ Some (before ++ part)

pub part_of : (text : List ℕ) (old new : Option (List ℕ)) → ((before : List ℕ) → old ≡ Some before → WritesPrefix before text new) → Part text old new
part_of text None new writes = record { part = []; prefix = prefix_none text; written = λ before e. absurd (grind (arith, e)) }
part_of text (Some all) new writes =
    let w : WritesPrefix all text new = writes all refl in
    record { part = w.0; prefix = w.1; written = λ before e. w.2 ∙ ap (λ (o : List ℕ). Some (o ++ w.0)) (let same : all ≡ before = grind (arith, e) in same) }
