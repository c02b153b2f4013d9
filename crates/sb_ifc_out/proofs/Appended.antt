-- Texts that are appended in turn stand behind one another.

use Rattle.std.proofs.Common.{◌≡◌, ℕ, List, [], ◌++◌, append_assoc, Result, Ok, Err, OnOk, ap, sym, ◌∙◌}
use Rattle.std.proofs.lemmas.List.{append-nil}

-- the last of two may have met want of memory
pub joined : {E : Type 0} (r : Result (Unit {0}) E) (start mid last a b : List ℕ)
    → mid ≡ start ++ a → OnOk r (last ≡ mid ++ b) → OnOk r (last ≡ start ++ (a ++ b))
joined (Ok u) start mid last a b one two =
    two ∙ ap (λ t. t ++ b) one ∙ append_assoc start a b
joined (Err e) start mid last a b one two = tt

-- nothing more is nothing more
pub ended : {E : Type 0} (r : Result (Unit {0}) E) (start last a : List ℕ)
    → OnOk r (last ≡ start ++ a) → OnOk r (last ≡ start ++ (a ++ []))
ended (Ok u) start last a one = one ∙ ap (λ t. start ++ t) (sym (append-nil a))
ended (Err e) start last a one = tt

-- what is appended may be written in another way
pub rewritten : {E : Type 0} (r : Result (Unit {0}) E) (start last a b : List ℕ) → a ≡ b
    → OnOk r (last ≡ start ++ a) → OnOk r (last ≡ start ++ b)
rewritten (Ok u) start last a b same one = one ∙ ap (λ t. start ++ t) same
rewritten (Err e) start last a b same one = tt
