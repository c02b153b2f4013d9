-- The bytes of a class at the front: how many there are is fixed by what follows them.
use Rattle.std.proofs.Common.{◌≡◌, ℕ, ◌+◌, ◌≤◌, Bool, true, false, List, [], ◌∷◌, ◌++◌, length, refl, ap, ◌∙◌, ⊎_elim, arith, one-add}
use Rattle.std.specs.List.{prefix_len, list_all}
use Rattle.std.proofs.lemmas.Bool.{cases_Bool, and_parts, and_from}
use Rattle.theory_bytes.specs.Sets.{begins_with}

module _ (test : ℕ → Bool) where
  -- a run that is followed by another byte is just so long
  pub run_is_whole : (run rest : List ℕ) → list_all test run ≡ true → begins_with test rest ≡ false
      → prefix_len test (run ++ rest) ≡ length run
  run_is_whole [] [] pass stops = refl
  run_is_whole [] (b ∷ bs) pass stops = rw stops
  run_is_whole (b ∷ bs) rest pass stops =
      let parts = and_parts (test b) (list_all test bs) pass in
      rw parts.0 (ap (λ n. 1 + n) (run_is_whole bs rest parts.1 stops) ∙ one-add (length bs))

  -- a run is at most so long
  pub run_is_longest : (run rest : List ℕ) → list_all test run ≡ true → length run ≤ prefix_len
      test (run ++ rest)
  run_is_longest [] rest pass = omega arith
  run_is_longest (b ∷ bs) rest pass =
      let parts = and_parts (test b) (list_all test bs) pass in
      rw parts.0 (omega (arith, run_is_longest bs rest parts.1))

  -- the bytes are the run at their front and what follows it
  pub record Cut (bytes : List ℕ) : Type 0 where
    pub run : List ℕ
    pub rest : List ℕ
    pub joined : bytes ≡ run ++ rest
    pub pass : list_all test run ≡ true
    pub stops : begins_with test rest ≡ false
    pub size : prefix_len test bytes ≡ length run

  -- each string of bytes has such a cut
  pub cut : (bytes : List ℕ) → Cut bytes
  cut [] = record { run = []; rest = []; joined = refl; pass = refl; stops = refl; size = refl }
  cut (b ∷ bs) =
      ⊎_elim
      (λ yes.
      let more = cut bs in
      record {
        run = b ∷ more.run;
        rest = more.rest;
        joined = ap (λ l. b ∷ l) more.joined;
        pass = and_from (test b) (list_all test more.run) yes more.pass;
        stops = more.stops;
        size = rw yes (ap (λ n. 1 + n) more.size ∙ one-add (length more.run));
      })
      (λ no. record {
        run = [];
        rest = b ∷ bs;
        joined = refl;
        pass = refl;
        stops = no;
        size = rw no
            refl;
      })
      (cases_Bool (test b))
