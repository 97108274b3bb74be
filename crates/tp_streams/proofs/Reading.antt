-- The event that a body says, by what stands at the body's front.
use Rattle.std.proofs.Common.{◌≡◌, ◌≢◌, ℕ, ◌+◌, ◌<◌, Option, Some, None, List, [], ◌∷◌, ◌++◌, length, take, drop, refl, ap, sym, ◌∙◌, arith, length-append, length-drop}
use Rattle.std.proofs.lemmas.List.{take-append-drop, take_all, take_at}
use Rattle.tp_names.specs.Grammar.{Begins, IsBadAt, IsReadBack, IsWritten}
use Rattle.tp_names.specs.Places.{AreBytes}
use Rattle.tp_names.proofs.Texts.{is_grammar}
use Rattle.tp_records.specs.declared.body.Body.{Body}
use Rattle.tp_records.specs.declared.body.Output.{Output}
use Rattle.tp_records.specs.Bodies.{body_bytes}
use Rattle.tp_records.specs.BodyReading.{whole, read_body, event_of, event_in, body_grammar}
use Rattle.tp_records.proofs.Whole.{body_scan}
use Rattle.tp_records.proofs.Spelled.{body_written}

read_back : IsReadBack body_grammar
read_back = (is_grammar body_grammar body_scan.steady body_written).read_back

written_so : IsWritten body_grammar
written_so = (is_grammar body_grammar body_scan.steady body_written).written

-- the text is the whole body
pub said_whole : (v : Body) (n : ℕ) (body : List ℕ) → Begins body_grammar v n body → n ≡ length body → event_in body ≡ event_of (Some v)
said_whole v n body b all =
    let text : body_bytes v ≡ body = b.1.1 ∙ take_all n body (omega arith) in
    let read : read_body body ≡ Some (v, []) = ap read_body (sym text) ∙ b.1.0 in
    ap (λ (o : Option (Body × List ℕ)). event_of (whole o)) read

more_is_none : (v : Body) (rest : List ℕ) → 0 < length rest → whole (Some (v, rest)) ≡ None
more_is_none v [] some = absurd (omega arith)
more_is_none v (b ∷ bs) some = refl

-- bytes stand behind the text
pub said_part : (v : Body) (n : ℕ) (body : List ℕ) → Begins body_grammar v n body → n ≢ length body → event_in body ≡ None
said_part v n body b part =
    let rest = drop n body in
    let is : body_bytes v ++ rest ≡ body = ap (λ (t : List ℕ). t ++ rest) b.1.1 ∙ take-append-drop n body in
    let read : read_body body ≡ Some (v, rest) = ap read_body (sym is) ∙ read_back v rest b.1.0 in
    let some : 0 < length rest = omega (arith, length-drop n body, b.0) in
    ap (λ (o : Option (Body × List ℕ)). event_of (whole o)) read ∙ ap event_of (more_is_none v rest some)

-- no text stands in front
pub said_nothing : (at : ℕ) (body : List ℕ) → AreBytes body → IsBadAt body_grammar body at → event_in body ≡ None
said_nothing at body bytes bad = go (read_body body) refl
  where
    go : (o : Option (Body × List ℕ)) → read_body body ≡ o → event_of (whole o) ≡ None
    go None e = refl
    go (Some p) e =
        let w = written_so p.0 body p.1 bytes e in
        let size : length body ≡ length (body_bytes p.0) + length p.1 = ap length w.1 ∙ length-append (body_bytes p.0) p.1 in
        let front : take (length (body_bytes p.0)) body ≡ body_bytes p.0 =
        ap (λ (t : List ℕ). take (length (body_bytes p.0)) t) w.1 ∙ take_at (body_bytes p.0) p.1 (length (body_bytes p.0)) refl in
        absurd (bad.no_text p.0 (length (body_bytes p.0)) (omega arith, (w.0, sym front)))

-- an output stands in front
pub said_output : (o : Output) (v : Body) (n : ℕ) (body : List ℕ) → v ≡ Body.Output o → Begins body_grammar v n body → event_in body ≡ None
said_output o v n body is b =
    let rest = drop n body in
    let all : body_bytes v ++ rest ≡ body = ap (λ (t : List ℕ). t ++ rest) b.1.1 ∙ take-append-drop n body in
    let read : read_body body ≡ Some (v, rest) = ap read_body (sym all) ∙ read_back v rest b.1.0 in
    ap (λ (r : Option (Body × List ℕ)). event_of (whole r)) (read ∙ ap (λ (w : Body). Some (w, rest)) is) ∙ go rest
  where
    go : (more : List ℕ) → event_of (whole (Some (Body.Output o, more))) ≡ None
    go [] = refl
    go (b ∷ bs) = refl
