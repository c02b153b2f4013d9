-- The faults of one thing and of another behind it are those of both.
use Rattle.std.proofs.Common.{◌≡◌, ℕ, Bool, true, false, ◌||◌, List, [], ◌∷◌, ◌++◌, refl}
use Rattle.sb_prism.specs.Kept.{faults_of, joined}

pub joined_faults : (b c a d : List ℕ) (t u s r f g : Bool)
    → joined (faults_of b a t s f) (faults_of c d u r g)
    ≡ faults_of (b ++ c) (a ++ d) (t || u) (s || r) (f || g)
joined_faults [] c [] d t u s r f g = refl
joined_faults [] c (n ∷ a) d t u s r f g = refl
joined_faults (m ∷ b) c [] d t u s r f g = refl
joined_faults (m ∷ b) c (n ∷ a) d t u s r f g = refl

-- where nothing behind is turned
pub joined_plain : (b c a d : List ℕ) (t s r f g : Bool)
    → joined (faults_of b a t s f) (faults_of c d false r g)
    ≡ faults_of (b ++ c) (a ++ d) t (s || r) (f || g)
joined_plain [] c [] d true s r f g = refl
joined_plain [] c [] d false s r f g = refl
joined_plain [] c (n ∷ a) d true s r f g = refl
joined_plain [] c (n ∷ a) d false s r f g = refl
joined_plain (m ∷ b) c [] d true s r f g = refl
joined_plain (m ∷ b) c [] d false s r f g = refl
joined_plain (m ∷ b) c (n ∷ a) d true s r f g = refl
joined_plain (m ∷ b) c (n ∷ a) d false s r f g = refl

-- where lengths alone are behind
pub joined_lengths : (b a : List ℕ) (t s r f g : Bool)
    → joined (faults_of b a t s f) (faults_of [] [] false r g) ≡ faults_of b a t (s || r) (f || g)
joined_lengths [] [] true s r f g = refl
joined_lengths [] [] false s r f g = refl
joined_lengths [] (n ∷ a) true s r f g = refl
joined_lengths [] (n ∷ a) false s r f g = refl
joined_lengths (m ∷ b) [] true s r f g = refl
joined_lengths (m ∷ b) [] false s r f g = refl
joined_lengths (m ∷ b) (n ∷ a) true s r f g = refl
joined_lengths (m ∷ b) (n ∷ a) false s r f g = refl
