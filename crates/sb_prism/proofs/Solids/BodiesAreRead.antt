-- What is kept of the representations so far, with one more.
use Rattle.std.proofs.Common.{◌≡◌, ℕ, Bool, true, false, List, [], ◌∷◌, ◌++◌, Option, Some, if◌then◌else◌, refl, sym, ap, ◌∙◌}
use Rattle.std.specs.List.{flat_map}
use Rattle.sb_place.specs.declared.sight.Seen.{Seen}
use Rattle.sb_place.specs.Sight.{absent_at, broken_at}
use Rattle.sb_prism.specs.declared.items.body.Body.{Body}
use Rattle.sb_prism.specs.declared.faults.Faults.{Faults}
use Rattle.sb_prism.specs.Shapes.{Representation, first_body, is_body, items_at}
use Rattle.sb_prism.specs.Kept.{faults_of, items_or, body_of, representation_faults, joined}
use Rattle.sb_prism.proofs.FaultsAreJoined.{joined_faults}
use Rattle.sb_prism.proofs.Outlines.OutlinesAreRead.{flat_push}

-- the first Body with one representation more
first_body_push : (rs : List (Seen Representation)) (r : Seen Representation)
    → items_or (first_body rs) (first_body (r ∷ [])) ≡ first_body (rs ++ r ∷ [])
first_body_push [] r = refl
first_body_push (q ∷ rs) r = by (is_body q) (first_body_push rs r)
  where
    by : (b : Bool) → items_or (first_body rs) (first_body (r ∷ [])) ≡ first_body (rs ++ r ∷ [])
        → items_or (if b then Some (items_at q) else first_body rs) (first_body (r ∷ []))
        ≡ (if b then Some (items_at q) else first_body (rs ++ r ∷ []))
    by true later = refl
    by false later = later

pub body_more : (rs : List (Seen Representation)) (r : Seen Representation)
    → record { faults = joined (body_of rs).faults (representation_faults r); items = items_or (first_body rs) (first_body (r ∷ [])) }
    ≡ body_of (rs ++ r ∷ [])
body_more rs r =
    ap (λ f. record { faults = f; items = items_or (first_body rs) (first_body (r ∷ [])) })
    (joined_faults (flat_map (λ q. broken_at q) rs) (broken_at r) (flat_map (λ q. absent_at q) rs) (absent_at r)
    false false false false false false
    ∙ (ap (λ ns. faults_of ns (flat_map (λ q. absent_at q) rs ++ absent_at r) false false false) (sym (flat_push (λ q. broken_at q) rs r))
    ∙ ap (λ ns. faults_of (flat_map (λ q. broken_at q) (rs ++ r ∷ [])) ns false false false) (sym (flat_push (λ q. absent_at q) rs r))))
    ∙ ap (λ i. record { faults = (body_of (rs ++ r ∷ [])).faults; items = i }) (first_body_push rs r)

pub body_grows : (rs : List (Seen Representation)) (r : Seen Representation) (before : Body) (faults : Faults)
    (items : Option (List ℕ)) → before ≡ body_of rs → faults ≡ joined before.faults (representation_faults r)
    → items ≡ items_or before.items (first_body (r ∷ []))
    → record { faults = faults; items = items } ≡ body_of (rs ++ r ∷ [])
body_grows rs r before faults items was faults_are items_are =
    ap (λ f. record { faults = f; items = items }) (faults_are ∙ ap (λ b. joined b.faults (representation_faults r)) was)
    ∙ (ap (λ i. record { faults = joined (body_of rs).faults (representation_faults r); items = i })
    (items_are ∙ ap (λ b. items_or b.items (first_body (r ∷ []))) was)
    ∙ body_more rs r)
