-- What was fed is the frames that were handed out, and then what is pending.
use Rattle.std.proofs.Common.{◌≡◌, ℕ, ◌+◌, List, [], ◌∷◌, ◌++◌, length, refl, sym, ◌∙◌, ap, subst, append_assoc, append-nil, length-append}
use Rattle.std.proofs.lemmas.List.{append_cancel_left}
use Rattle.tp_framing.specs.Frames.{Next, Part, Whole, Bad, next_in, Rest, Nothing, Bad_length, Stream, with_bodies, ends_with, stream, frame_bytes, frames_bytes, IsBody, AreBodies, AreFrames}
use Rattle.tp_framing.specs.Fed.{Fed, fresh, with_piece, HandsOut, Step, Piece, Body, fed_in, bodies_in, Leads, IsSplit, HasMore, rest_of}
use Rattle.tp_framing.proofs.Streams.{stream_frames, stream_part, stream_bad}

pub split_fresh : IsSplit [] [] fresh
split_fresh = record { each = tt; is = refl; handed = refl }

pub split_piece : (bytes piece : List ℕ) (bodies : List (List ℕ)) (f : Fed) → IsSplit bytes bodies f → IsSplit (bytes ++ piece) bodies (with_piece f piece)
split_piece bytes piece bodies f s =
    record {
      each = s.each;
      is = ap (λ w. w ++ piece) s.is ∙ append_assoc (frames_bytes bodies) f.pending piece;
      handed = s.handed;
    }

pub each_more : (bodies : List (List ℕ)) (body : List ℕ) → AreBodies bodies → IsBody body → AreBodies (bodies ++ body ∷ [])
each_more [] body each sound = (sound, tt)
each_more (b ∷ bs) body each sound = (each.0, each_more bs body each.1 sound)

pub frames_more : (bodies : List (List ℕ)) (body : List ℕ) → frames_bytes (bodies ++ body ∷ []) ≡ frames_bytes bodies ++ frame_bytes body
frames_more [] body = append-nil (frame_bytes body)
frames_more (b ∷ bs) body = ap (λ w. frame_bytes b ++ w) (frames_more bs body) ∙ sym (append_assoc (frame_bytes b) (frames_bytes bs) (frame_bytes body))

pub split_body : (bytes body : List ℕ) (bodies : List (List ℕ)) (f g : Fed) → IsSplit bytes bodies f → HandsOut f body g → IsSplit bytes (bodies ++ body ∷ []) g
split_body bytes body bodies f g s h =
    let joined = frames_more bodies body in
    record {
      each = each_more bodies body s.each h.sound;
      is = s.is ∙ ap (λ w. frames_bytes bodies ++ w) h.pending
          ∙ sym (append_assoc (frames_bytes bodies) (frame_bytes body) g.pending)
          ∙ ap (λ w. w ++ g.pending) (sym joined);
      handed = h.handed ∙ ap (λ n. n + length (frame_bytes body)) s.handed
          ∙ sym (length-append (frames_bytes bodies) (frame_bytes body))
          ∙ ap length (sym joined);
    }

pub leads_split : (steps : List Step) (bytes : List ℕ) (bodies : List (List ℕ)) (f g : Fed)
    → IsSplit bytes bodies f → Leads f steps g → IsSplit (bytes ++ fed_in steps) (bodies ++ bodies_in steps) g
leads_split [] bytes bodies f g s l =
    subst (λ (h : Fed). IsSplit (bytes ++ []) (bodies ++ []) h) l
    (subst (λ (w : List ℕ). IsSplit w (bodies ++ []) f) (sym (append-nil bytes))
    (subst (λ (w : List (List ℕ)). IsSplit bytes w f) (sym (append-nil bodies)) s))
leads_split (Piece piece ∷ steps) bytes bodies f g s l =
    subst (λ (w : List ℕ). IsSplit w (bodies ++ bodies_in steps) g) (append_assoc bytes piece (fed_in steps))
    (leads_split steps (bytes ++ piece) bodies (with_piece f piece) g (split_piece bytes piece bodies f s) l)
leads_split (Body body ∷ steps) bytes bodies f g s l =
    subst (λ (w : List (List ℕ)). IsSplit (bytes ++ fed_in steps) w g) (append_assoc bodies (body ∷ []) (bodies_in steps))
    (leads_split steps bytes (bodies ++ body ∷ []) l.0 g (split_body bytes body bodies f l.0 s l.1) l.2)

-- ---- the stream

pub stream_split : (bytes : List ℕ) (bodies : List (List ℕ)) (f : Fed) → IsSplit bytes bodies f → stream bytes ≡ with_bodies bodies (stream f.pending)
stream_split bytes bodies f s = ap stream s.is ∙ stream_frames bodies f.pending s.each

pub bodies_end : (bytes : List ℕ) (bodies : List (List ℕ)) (f : Fed) (r : Rest) → IsSplit bytes bodies f → stream f.pending ≡ ends_with r → stream bytes ≡ record { bodies = bodies; rest = r }
bodies_end bytes bodies f r s e =
    stream_split bytes bodies f s ∙ ap (with_bodies bodies) e ∙ ap (λ bs. let t : Stream = record { bodies = bs; rest = r } in t) (append-nil bodies)

pub stream_whole : (bytes : List ℕ) (bodies : List (List ℕ)) → AreFrames bytes bodies → stream bytes ≡ with_bodies bodies (ends_with Nothing)
stream_whole bytes bodies a =
    let f : Fed = record { handed = length (frames_bytes bodies); pending = [] } in
    stream_split bytes bodies f (record { each = a.each; is = a.is ∙ sym (append-nil (frames_bytes bodies)); handed = refl })

-- ---- one reading

pub end_bodies : (bytes : List ℕ) (bodies : List (List ℕ)) (f : Fed) → IsSplit bytes bodies f → (HasMore f → ⊥) → (stream bytes).bodies ≡ bodies
end_bodies bytes bodies f s no_more = go (next_in f.pending) refl
  where
    go : (n : Next) → next_in f.pending ≡ n → (stream bytes).bodies ≡ bodies
    go Part is = ap (λ (t : Stream). t.bodies) (bodies_end bytes bodies f (rest_of f.pending) s (stream_part f.pending is))
    go (Whole body rest) is = absurd (no_more (record { body = body; rest = rest; next = is }))
    go Bad is = ap (λ (t : Stream). t.bodies) (bodies_end bytes bodies f Bad_length s (stream_bad f.pending is))

pub one_reading : (bytes : List ℕ) (bodies others : List (List ℕ)) (f g : Fed)
    → IsSplit bytes bodies f → IsSplit bytes others g → (HasMore f → ⊥) → (HasMore g → ⊥) → (bodies ≡ others) × (f ≡ g)
one_reading bytes bodies others f g s t m n =
    let same : bodies ≡ others = sym (end_bodies bytes bodies f s m) ∙ end_bodies bytes others g t n in
    let joined : frames_bytes others ++ f.pending ≡ frames_bytes others ++ g.pending = ap (λ bs. frames_bytes bs ++ f.pending) (sym same) ∙ sym s.is ∙ t.is in
    let pending : f.pending ≡ g.pending = append_cancel_left (frames_bytes others) f.pending g.pending joined in
    let handed : f.handed ≡ g.handed = s.handed ∙ ap (λ bs. length (frames_bytes bs)) same ∙ sym t.handed in
    (same, ap (λ k. let h : Fed = record { handed = k; pending = f.pending } in h) handed ∙ ap (λ w. let h : Fed = record { handed = g.handed; pending = w } in h) pending)
