-- A loop over all watchers: what is ready, and what was told, up to a place.
use Rattle.std.specs.Prelude.{◌≡◌, ◌≤◌, ◌<◌, ◌⊎◌, ℕ, ◌+◌, List, [], ◌∷◌, ◌++◌, length, map, take, drop, Option}
use Rattle.std.specs.List.{All}
use Rattle.std.proofs.Common.{refl, sym, ap, ap₂, subst, ◌∙◌, arith, inl, inr, get_or, set, get_or-set_same, get_or-set_other}
use Rattle.std.proofs.lemmas.List.{length-map, take_all, take_more, take_more_set, drop_more, drop-set-lt, map-append}
use Rattle.std.proofs.lemmas.Grind.{drop_more_same}
use Rattle.std.proofs.Math.Seq.{map-set_same}
use Rattle.circular_buffer.proofs.Places.{below_or_not}
use Rattle.plan_watch.specs.declared.note.Note.{Note}
use Rattle.plan_watch.specs.Notes.{keep, keep_each}

module _ {X : Type 0} where
  heads : (x y : X) (xs ys : List X) → x ∷ xs ≡ y ∷ ys → x ≡ y
  heads x y xs ys e = cc

  -- where two lists have one rest, they have one element at its head
  pub one_head : (xs ys : List X) (k : ℕ) (d : X) → k < length xs → k < length ys → drop k xs ≡ drop k ys → get_or xs k d ≡ get_or ys k d
  one_head xs ys k d less more e =
      heads (get_or xs k d) (get_or ys k d) (drop (k + 1) xs) (drop (k + 1) ys) (sym (drop_more xs k d less) ∙ e ∙ drop_more ys k d more)

-- one more list to keep
each_more : (rooms : List (Option ℕ)) (lists : List (List Note)) (room : Option ℕ) (list : List Note) (note : Note) → length rooms ≡ length lists
    → keep_each (rooms ++ room ∷ []) (lists ++ list ∷ []) note ≡ keep_each rooms lists note ++ keep room list note ∷ []
each_more [] [] room list note e = refl
each_more [] (l ∷ lists) room list note e = absurd (omega arith)
each_more (r ∷ rooms) [] room list note e = absurd (omega arith)
each_more (r ∷ rooms) (l ∷ lists) room list note e = ap (λ t. keep r l note ∷ t) (each_more rooms lists room list note (omega arith))

module _ {X : Type 0} (room : X → Option ℕ) (list : X → List Note) (is_set : X → Type 0) where
  -- those before the place are ready, and all keep what they kept
  pub record IsReadied (old now : List X) (k : ℕ) : Type 0 where
    pub rooms : map room now ≡ map room old
    pub lists : map list now ≡ map list old
    pub set : (j : ℕ) (d : X) → j < k → is_set (get_or now j d)

  -- one is as it was, but for being ready
  pub same_after : (old now : List X) (k : ℕ) → IsReadied old now k → (x y : X) → x ≡ get_or now k x → room y ≡ room x → list y ≡ list x
      → (map room (set now k y) ≡ map room old) × (map list (set now k y) ≡ map list old)
  same_after old now k r x y there one_room one_list =
      (map-set_same room now k y x (one_room ∙ ap room there) ∙ r.rooms, map-set_same list now k y x (one_list ∙ ap list there) ∙ r.lists)

  pub readied_on : (old now : List X) (k : ℕ) → IsReadied old now k → k < length now → (x y : X) → x ≡ get_or now k x
      → room y ≡ room x → list y ≡ list x → is_set y → IsReadied old (set now k y) (k + 1)
  readied_on old now k r less x y there one_room one_list y_set = record {
    rooms = (same_after old now k r x y there one_room one_list).0;
    lists = (same_after old now k r x y there one_room one_list).1;
    set = λ j d below. by j d (below_or_not j k) below;
  }
    where
      by : (j : ℕ) (d : X) → (j < k) ⊎ (k ≤ j) → j < k + 1 → is_set (get_or (set now k y) j d)
      by j d (inl earlier) below = subst is_set (sym (get_or-set_other now k j y d (omega arith))) (r.set j d earlier)
      by j d (inr later) below =
          let here : j ≡ k = omega arith in
          subst (λ i. is_set (get_or (set now k y) i d)) (sym here) (subst is_set (sym (get_or-set_same now k y d less)) y_set)

  pub count_readied : (old now : List X) (k : ℕ) → IsReadied old now k → length now ≡ length old
  count_readied old now k r = omega (arith, length-map now room, length-map old room, ap length r.rooms)

  pub all_readied : (old now : List X) (k : ℕ) → IsReadied old now k → length now ≤ k → All is_set now
  all_readied old now k r all = λ j d in_list. r.set j d (omega arith)

  -- those before the place were told the note, the others are as they were, and no room changes
  pub record IsTold (note : Note) (old now : List X) (k : ℕ) : Type 0 where
    pub rest : drop k now ≡ drop k old
    pub rooms : map room now ≡ map room old
    pub told : map list (take k now) ≡ keep_each (map room (take k old)) (map list (take k old)) note

  pub count_told : (note : Note) (old now : List X) (k : ℕ) → IsTold note old now k → length now ≡ length old
  count_told note old now k t = omega (arith, length-map now room, length-map old room, ap length t.rooms)

  pub still_set : (note : Note) (old now : List X) (k : ℕ) → IsTold note old now k → All is_set old → k < length now
      → (x : X) → x ≡ get_or now k x → is_set x
  still_set note old now k t all less x there =
      let more : k < length old = omega (arith, count_told note old now k t) in
      subst is_set (sym (there ∙ one_head now old k x less more t.rest)) (all k x more)

  pub told_on : (note : Note) (old now : List X) (k : ℕ) → IsTold note old now k → k < length now → (x y : X) → x ≡ get_or now k x
      → room y ≡ room x → list y ≡ keep (room x) (list x) note → IsTold note old (set now k y) (k + 1)
  told_on note old now k t less x y there one_room one_list =
      let more : k < length old = omega (arith, count_told note old now k t) in
      let same : x ≡ get_or old k x = there ∙ one_head now old k x less more t.rest in
      record {
        rest = drop-set-lt (k + 1) now k y (omega arith) ∙ drop_more_same now old k t.rest;
        rooms = map-set_same room now k y x (one_room ∙ ap room there) ∙ t.rooms;
        told =
            ap (map list) (take_more_set now k y less)
            ∙ map-append list (take k now) (y ∷ [])
            ∙ ap₂ (λ told_lists last. told_lists ++ last ∷ []) t.told (one_list ∙ ap (λ z. keep (room z) (list z) note) same)
            ∙ sym (each_more (map room (take k old)) (map list (take k old)) (room (get_or old k x)) (list (get_or old k x)) note
            (omega (arith, length-map (take k old) room, length-map (take k old) list)))
            ∙ ap₂ (λ rooms lists. keep_each rooms lists note)
            (sym (map-append room (take k old) (get_or old k x ∷ [])) ∙ ap (map room) (sym (take_more old k x more)))
            (sym (map-append list (take k old) (get_or old k x ∷ [])) ∙ ap (map list) (sym (take_more old k x more)));
      }

  pub all_told : (note : Note) (old now : List X) (k : ℕ) → IsTold note old now k → length now ≤ k
      → map list now ≡ keep_each (map room old) (map list old) note
  all_told note old now k t all =
      ap (map list) (sym (take_all k now all))
      ∙ t.told
      ∙ ap (λ xs. keep_each (map room xs) (map list xs) note) (take_all k old (omega (arith, count_told note old now k t)))
