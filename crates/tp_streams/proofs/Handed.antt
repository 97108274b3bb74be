-- A body that is handed out to the caller: what was answered, and what is left.
use Rattle.std.proofs.Common.{◌≡◌, ℕ, suc, Option, Some, None, Result, Err, List, ◌++◌, refl, ap, sym, ◌∙◌}
use Rattle.std.specs.Prelude.{option_map}
use Rattle.tp_framing.specs.Frames.{stream, frame_bytes, IsBody, with_body}
use Rattle.tp_framing.specs.Fed.{Fed}
use Rattle.tp_framing.proofs.Streams.{stream_frame}
use Rattle.tp_streams.specs.declared.stop.Stop.{Stop}
use Rattle.tp_streams.specs.Taken.{Place, together, first_body, answer, HandsOut}
use Rattle.tp_streams.specs.Feeds.{FindsBody}

-- ---- what is answered

pub answer_fresh : (p : Place) (all : List ℕ) → p.stop ≡ None → answer p all ≡ first_body (suc p.at) (stream all)
answer_fresh p all none =
    ap (λ (o : Option Stop). elim o as (λ _. Result (Option (List ℕ)) Stop) [ Some stop ↦ Err stop | None ↦ first_body (suc p.at) (stream all) ]) none

-- ---- what is left

pub frames_behind : (body : List ℕ) (o : Option (List ℕ)) → IsBody body → option_map stream (option_map (λ bytes. frame_bytes body ++ bytes) o) ≡ option_map (with_body body) (option_map stream o)
frames_behind body None sound = refl
frames_behind body (Some bytes) sound = ap Some (stream_frame body bytes sound)

pub handed_out : (old new : Place) (f g : Fed) (left rest : Option (List ℕ)) (body : List ℕ) → f.pending ≡ old.held → g.pending ≡ new.held
    → new.at ≡ suc old.at → new.stop ≡ None → FindsBody f left body g rest → HandsOut old left body new rest
handed_out old new f g left rest body held kept at stop h =
    let bytes : together old.held left ≡ option_map (λ bytes. frame_bytes body ++ bytes) (together new.held rest) =
    ap (λ (t : List ℕ). together t left) (sym held) ∙ h.bytes ∙ ap (λ (t : List ℕ). option_map (λ bytes. frame_bytes body ++ bytes) (together t rest)) kept in
    record {
      sound = h.sound;
      bytes = bytes;
      frames = ap (option_map stream) bytes ∙ frames_behind body (together new.held rest) h.sound;
      at = at;
      stop = stop;
    }
