-- The last of some frames. Crates above cite these laws, too.
use Rattle.std.proofs.Common.{◌≡◌, List, [], ◌∷◌, ◌++◌, Some, refl, ap}
use Rattle.flt_model.specs.Moves.{last_frame, without_last}
use Rattle.flt_model.specs.World.{Frame}

-- the last frame is the one that came last
pub last_after : (frames : List Frame) (f : Frame) → last_frame (frames ++ f ∷ []) ≡ Some f
last_after [] f = refl
last_after (g ∷ []) f = refl
last_after (g ∷ h ∷ frames) f = last_after (h ∷ frames) f

-- the frames without the last are those before it
pub without_after : (frames : List Frame) (f : Frame) → without_last (frames ++ f ∷ []) ≡ frames
without_after [] f = refl
without_after (g ∷ []) f = refl
without_after (g ∷ h ∷ frames) f = ap (λ (l : List Frame). g ∷ l) (without_after (h ∷ frames) f)
