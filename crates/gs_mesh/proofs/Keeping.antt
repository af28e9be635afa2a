-- What is kept of topics, after what is kept of one of them changed.
use Rattle.std.proofs.Common.{◌≡◌, Bool, true, false, cond, List, Option, Some, None, Result, Ok, Err, OnErr, refl, sym, ap, subst, ◌∙◌}
use Rattle.std.specs.Prelude.{if◌then◌else◌}
use Rattle.std.specs.Option.{unwrap_or}
use Rattle.std.specs.Map.{lookup}
use Rattle.std.proofs.lemmas.Slice.Eq.{bytes_eq-Decides}
use Rattle.gs_base.specs.declared.names.Topic.{Topic}
use Rattle.gs_base.specs.Names.{same_topic}
use Rattle.gs_mesh.specs.declared.topic_mesh.TopicMesh.{TopicMesh}
use Rattle.gs_mesh.specs.Meshes.{Puts, SayTheSame, kept, nothing}

-- topics of the same bytes are one
same_are_one : (t u : Topic) → same_topic t u ≡ true → t ≡ u
same_are_one t u is = ap (λ bytes. record { 0 = bytes }) ((bytes_eq-Decides t.0 u.0).0 is)

kept_if : (same : Bool) (m : TopicMesh) (o : Option TopicMesh) → unwrap_or (cond same (Some m) o) nothing ≡ (if same then m else unwrap_or o nothing)
kept_if true m o = refl
kept_if false m o = refl

-- in the place of what was kept of a topic comes something else
abbrev pub Replaces : List (Topic × TopicMesh) → List (Topic × TopicMesh) → Topic → TopicMesh → Type 0
Replaces old new t m = (u : Topic) → lookup (same_topic u) new ≡ cond (same_topic t u) (Some m) (lookup (same_topic u) old)

pub was_kept : (old : List (Topic × TopicMesh)) (t : Topic) (m : TopicMesh) → lookup (same_topic t) old ≡ Some m → kept old t ≡ m
was_kept old t m found = ap (λ (o : Option TopicMesh). unwrap_or o nothing) found

pub puts : (old new : List (Topic × TopicMesh)) (t : Topic) (m : TopicMesh) → Replaces old new t m → Puts old new t m
puts old new t m replaces u = ap (λ (o : Option TopicMesh). unwrap_or o nothing) (replaces u) ∙ kept_if (same_topic t u) m (lookup (same_topic u) old)

-- to put what is kept changes nothing
pub stays : (es : List (Topic × TopicMesh)) (t : Topic) (m : TopicMesh) → kept es t ≡ m → Puts es es t m
stays es t m is u = by (same_topic t u) refl
  where
    by : (same : Bool) → same_topic t u ≡ same → kept es u ≡ (if same then m else kept es u)
    by true e = ap (kept es) (sym (same_are_one t u e)) ∙ is
    by false e = refl

pub none_kept : (es : List (Topic × TopicMesh)) (t : Topic) → lookup (same_topic t) es ≡ None → kept es t ≡ nothing
none_kept es t none = ap (λ (o : Option TopicMesh). unwrap_or o nothing) none

-- nothing comes in the place of nothing
pub the_same : (old new : List (Topic × TopicMesh)) (t : Topic) → lookup (same_topic t) old ≡ None → Replaces old new t nothing → SayTheSame old new
the_same old new t none replaces u = puts old new t nothing replaces u ∙ sym (stays old t nothing (none_kept old t none) u)

-- where what was kept of a topic is put again, nothing changes
pub same_again : (old new : List (Topic × TopicMesh)) (t : Topic) (m : TopicMesh) → lookup (same_topic t) old ≡ Some m → Replaces old new t m → SayTheSame old new
same_again old new t m found replaces u = puts old new t m replaces u ∙ sym (stays old t m (was_kept old t m found) u)

-- where a change of what was kept failed, and so changed nothing, nothing is changed at all
pub failed : {A B C : Type 0} (r : Result A B) (old new : List (Topic × TopicMesh)) (t : Topic) (m : TopicMesh) (part : C → TopicMesh) (was is : C)
    → part was ≡ m
    → lookup (same_topic t) old ≡ Some m
    → Replaces old new t (part is)
    → OnErr r (is ≡ was)
    → OnErr r (SayTheSame old new)
failed (Ok x) old new t m part was is same found replaces unchanged = tt
failed (Err e) old new t m part was is same found replaces unchanged = same_again old new t m found (subst (Replaces old new t) (ap part unchanged ∙ same) replaces)
