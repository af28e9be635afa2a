-- Tables after one opinion more.
use Rattle.std.proofs.Common.{◌≡◌, ℕ, ◌+◌, ◌<◌, Bool, true, false, if◌then◌else◌, List, [], ◌∷◌, ◌++◌, filter, get_or, length, map, take, sym, ap, subst, ◌∙◌}
use Rattle.std.specs.List.{AllZip}
use Rattle.std.proofs.lemmas.List.{take_more}
use Rattle.gs_plan.specs.declared.plan.Plan.{Plan}
use Rattle.gs_reach.specs.declared.chosen.Chosen.{Chosen}
use Rattle.gs_opinions.specs.declared.opinion.Opinion.{Opinion}
use Rattle.gs_opinions.specs.declared.tables.GroupRounds.{GroupRounds}
use Rattle.gs_opinions.specs.declared.tables.Tables.{Tables}
use Rattle.gs_opinions.specs.Noting.{Shows, ShowsGroup, ShowsPairs, is_member, lowered_group, lowered_in_round, round_cells}
use Rattle.gs_opinions.specs.Runs.{is_about, round_of}
use Rattle.gs_opinions.proofs.OneMore.{about_more, rounds_more}

-- ---- groups

module _ (plan : Plan) (os : List Opinion) (o : Opinion) where
  group_more : (group : Chosen) (x : GroupRounds) → ShowsGroup plan os group x → ShowsGroup plan (os ++ o ∷ []) group (lowered_group (round_of plan o.at) o x)
  group_more group x h = by (is_member x.members o.of) (sym (h.members o.of))
    where
      by : (b : Bool) → is_about group o ≡ b → ShowsGroup plan (os ++ o ∷ []) group (if b then record x { rounds = lowered_in_round (round_of plan o.at) o.score x.rounds } else x)
      by true is = record {
        members = h.members;
        rounds = ap (lowered_in_round (round_of plan o.at) o.score) h.rounds
            ∙ rounds_more plan (filter (is_about group) os) o
            ∙ ap (λ (xs : List Opinion). round_cells plan xs) (sym (about_more plan os o group true is));
      }
      by false is = record {
        members = h.members;
        rounds = h.rounds ∙ ap (λ (xs : List Opinion). round_cells plan xs) (sym (about_more plan os o group false is));
      }

  groups_more : (groups : List Chosen) (xs : List GroupRounds) → AllZip (ShowsGroup plan os) groups xs → AllZip (ShowsGroup plan (os ++ o ∷ [])) groups (map (lowered_group (round_of plan o.at) o) xs)
  groups_more [] [] h = tt
  groups_more [] (x ∷ xs) h = absurd h
  groups_more (group ∷ groups) [] h = absurd h
  groups_more (group ∷ groups) (x ∷ xs) h = (group_more group x h.0, groups_more groups xs h.1)

  -- ---- all tables

  pub noted : (groups : List Chosen) (old new : Tables)
      → Shows plan groups old os
      → new.round_ms ≡ old.round_ms
      → ShowsPairs plan new.pairs.items (os ++ o ∷ [])
      → new.rounds ≡ lowered_in_round (round_of plan o.at) o.score old.rounds
      → new.groups.items ≡ map (lowered_group (round_of plan o.at) o) old.groups.items
      → Shows plan groups new (os ++ o ∷ [])
  noted groups old new was same pairs rounds lowered = record {
    lasts = was.lasts;
    round_ms = same ∙ was.round_ms;
    pairs = pairs;
    rounds = rounds ∙ ap (lowered_in_round (round_of plan o.at) o.score) was.rounds ∙ rounds_more plan os o;
    groups = subst (AllZip (ShowsGroup plan (os ++ o ∷ [])) groups) (sym lowered) (groups_more groups old.groups.items was.groups);
  }

-- ---- loops

-- one group more
pub all_zip_push : {A B : Type 0} (R : A → B → Type 0) (xs : List A) (ys : List B) (x : A) (y : B) → AllZip R xs ys → R x y → AllZip R (xs ++ x ∷ []) (ys ++ y ∷ [])
all_zip_push R [] [] x y h r = (r, tt)
all_zip_push R [] (b ∷ ys) x y h r = absurd h
all_zip_push R (a ∷ xs) [] x y h r = absurd h
all_zip_push R (a ∷ xs) (b ∷ ys) x y h r = (h.0, all_zip_push R xs ys x y h.1 r)

pub one_group_more : {A B : Type 0} (R : A → B → Type 0) (xs : List A) (ys : List B) (i : ℕ) (x d : A) (y : B) → i < length xs → x ≡ get_or xs i d → AllZip R (take i xs) ys → R x y → AllZip R (take (i + 1) xs) (ys ++ y ∷ [])
one_group_more {A} {B} R xs ys i x d y below is h r =
    subst (λ (zs : List A). AllZip R zs (ys ++ y ∷ [])) (ap (λ (z : A). take i xs ++ z ∷ []) is ∙ sym (take_more xs i d below))
    (all_zip_push R (take i xs) ys x y h r)
