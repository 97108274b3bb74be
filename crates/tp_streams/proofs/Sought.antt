-- The next body, sought among the bytes at hand and those that the source has left.
use Rattle.std.proofs.Common.{◌≡◌, ℕ, ◌+◌, Option, Some, None, Ok, List, ◌++◌, length, refl, ap, sym, ◌∙◌, append_assoc}
use Rattle.std.specs.Prelude.{option_map}
use Rattle.tp_framing.specs.Frames.{stream, frame_bytes}
use Rattle.tp_framing.specs.Fed.{Fed}
use Rattle.tp_framing.proofs.Streams.{stream_frame}
use Rattle.tp_streams.specs.Taken.{together, first_body, IsFor}
use Rattle.tp_streams.specs.Feeds.{Hands, FindsBody}

together_frame : (body pending : List ℕ) (left : Option (List ℕ))
    → together (frame_bytes body ++ pending) left ≡ option_map (λ bytes. frame_bytes body ++ bytes) (together pending left)
together_frame body pending None = refl
together_frame body pending (Some left) = ap (λ (t : List ℕ). Some t) (append_assoc (frame_bytes body) pending left)

pub found : (start old new : Fed) (left rest : Option (List ℕ)) (body : List ℕ)
    → old.handed ≡ start.handed → together old.pending rest ≡ together start.pending left → Hands old body new → FindsBody start left body new rest
found start old new left rest body handed same h =
    record {
      sound = h.out.sound;
      bytes = sym same ∙ ap (λ (t : List ℕ). together t rest) h.out.pending ∙ together_frame body new.pending rest;
      handed = h.out.handed ∙ ap (λ (k : ℕ). k + length (frame_bytes body)) handed;
    }

pub found_answer : (number : ℕ) (start new : Fed) (left rest : Option (List ℕ)) (body : List ℕ)
    → FindsBody start left body new rest → IsFor (λ all. first_body number (stream all)) (together start.pending left) (Ok (Some body))
found_answer number start new left rest body h all is = go (together new.pending rest) (sym is ∙ h.bytes)
  where
    go : (o : Option (List ℕ)) → Some all ≡ option_map (λ bytes. frame_bytes body ++ bytes) o → Ok (Some body) ≡ first_body number (stream all)
    go None e = absurd cc
    go (Some bytes) e =
        let f : all ≡ frame_bytes body ++ bytes = cc in
        sym (ap (λ (t : List ℕ). first_body number (stream t)) f ∙ ap (first_body number) (stream_frame body bytes h.sound))
