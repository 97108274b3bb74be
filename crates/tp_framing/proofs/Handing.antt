-- A body is handed out by an index that goes on.
use Rattle.std.proofs.Common.{◌≡◌, ℕ, ◌+◌, ◌-◌, List, ◌++◌, length, take, drop, refl, sym, subst, ◌∙◌, ap, arith, length-append, length-drop}
use Rattle.std.proofs.lemmas.List.{drop-drop, length-take-le, take_rest}
use Rattle.tp_framing.specs.Frames.{Next, Part, Whole, Bad, next_in, frame_bytes}
use Rattle.tp_framing.specs.Fed.{Fed, fed_so_far, after_next, HandsOut}
use Rattle.tp_framing.specs.Front.{HasWhole}

-- what is handed out of a vector whose bytes from a place on are pending; ys is that vector too
pub record Handing (xs ys : List ℕ) (start handed n : ℕ) (old : Fed) : Type 0 where
  pub after : (let new : Fed = record { handed = handed + (2 + n); pending = drop (start + 2 + n) xs } in new) ≡ after_next old
  pub answer : next_in old.pending ≡ Whole (take (start + 2 + n - (start + 2)) (drop (start + 2) ys)) (after_next old).pending
  pub hands : HandsOut old (take (start + 2 + n - (start + 2)) (drop (start + 2) ys)) (after_next old)

abbrev pub fed_by : Fed → Next → Fed
fed_by f Part = f
fed_by f (Whole body rest) = record { handed = f.handed + length (frame_bytes body); pending = rest }
fed_by f Bad = f

pub after_next_is : (f : Fed) (n : Next) → next_in f.pending ≡ n → after_next f ≡ fed_by f n
after_next_is f n e = go (next_in f.pending) ∙ ap (fed_by f) e
  where
    go : (m : Next) → elim m as (λ _. Fed) [ Part ↦ f | Whole body rest ↦ record { handed = f.handed + length (frame_bytes body); pending = rest } | Bad ↦ f ] ≡ fed_by f m
    go Part = refl
    go (Whole body rest) = refl
    go Bad = refl

pub handing : (xs : List ℕ) (start handed n : ℕ) → HasWhole (drop start xs) n → (let f : Fed = record { handed = handed; pending = drop start xs } in Handing xs xs start handed n f)
handing xs start handed n w =
    let old : Fed = record { handed = handed; pending = drop start xs } in
    let b : List ℕ = take n (drop 2 (drop start xs)) in
    let r : List ℕ = drop (2 + n) (drop start xs) in
    let fed : after_next old ≡ record { handed = handed + length (frame_bytes b); pending = r } = after_next_is old (Whole b r) w.next in
    let len : length b ≡ n = length-take-le n (drop 2 (drop start xs)) (let fits = w.within in omega (arith, length-drop 2 (drop start xs))) in
    let framed : length (frame_bytes b) ≡ 2 + n = omega (arith, len) in
    let count : start + 2 + n - (start + 2) ≡ n = omega arith in
    let body : take (start + 2 + n - (start + 2)) (drop (start + 2) xs) ≡ b =
    ap (λ k. take k (drop (start + 2) xs)) count ∙ ap (take n) (sym (drop-drop 2 start xs)) in
    let assoc : start + 2 + n ≡ start + (2 + n) = omega arith in
    let rest : drop (start + 2 + n) xs ≡ r = ap (λ k. drop k xs) assoc ∙ sym (drop-drop (2 + n) start xs) in
    let spelled : drop start xs ≡ frame_bytes b ++ r = w.is in
    record {
      after = ap (λ k. let f : Fed = record { handed = handed + k; pending = drop (start + 2 + n) xs } in f) (sym framed)
          ∙ ap (λ v. let f : Fed = record { handed = handed + length (frame_bytes b); pending = v } in f) rest ∙ sym fed;
      answer = w.next ∙ ap (λ v. Whole v r) (sym body) ∙ ap (λ (f : Fed). Whole (take (start + 2 + n - (start + 2)) (drop (start + 2) xs)) f.pending) (sym fed);
      hands = rw (body, fed) (record { sound = w.body; pending = spelled; handed = refl });
    }

-- the same of vectors and a value that are equal to these
pub handing_at : (xs ys zs : List ℕ) (start handed n : ℕ) (old : Fed) → (let f : Fed = record { handed = handed; pending = drop start xs } in f) ≡ old → ys ≡ xs → zs ≡ xs
    → HasWhole (take (length zs - start) (drop start zs)) n → Handing xs ys start handed n old
handing_at xs ys zs start handed n old e same also whole =
    let front : take (length zs - start) (drop start zs) ≡ drop start xs = take_rest zs start ∙ ap (drop start) also in
    let w : HasWhole (drop start xs) n = subst (λ (v : List ℕ). HasWhole v n) front whole in
    subst (λ (f : Fed). Handing xs ys start handed n f) e
    (subst (λ (v : List ℕ). let f : Fed = record { handed = handed; pending = drop start xs } in Handing xs v start handed n f) (sym same)
    (handing xs start handed n w))

-- what was fed stays what was fed
pub hands_kept : (f g : Fed) (body : List ℕ) → HandsOut f body g → fed_so_far g ≡ fed_so_far f
hands_kept f g body h = omega (arith, h.handed, ap length h.pending, length-append (frame_bytes body) g.pending)
