-- What a neighbour gets for a request, one identifier after the other.
use Rattle.std.proofs.Common.{◌≡◌, ◌<◌, ℕ, ◌+◌, ◌-◌, arith, Bool, true, false, if◌then◌else◌, cond, List, [], ◌∷◌, ◌++◌, length, filter, Option, Some, None, option_map, is_some, unwrap_or, refl, sym, ap, ◌∙◌, length-append, append-nil, subst}
use Rattle.std.specs.Prelude.{nat_lt}
use Rattle.std.proofs.lemmas.Bool.Decides.{nat_tests}
use Rattle.std.proofs.lemmas.List.Elements.{filter-append}
use Rattle.std.proofs.lemmas.List.{map-append, append_assoc, length-map}
use Rattle.std.proofs.lemmas.Cmp.{nat_list_eq_equiv}
use Rattle.std.proofs.lemmas.Slice.Eq.{bytes_eq-Decides}
use Rattle.gs_base.specs.declared.names.PeerNo.{PeerNo}
use Rattle.gs_base.specs.declared.names.MsgId.{MsgId}
use Rattle.gs_base.specs.declared.rpc.Message.{Message}
use Rattle.gs_base.specs.declared.rpc.Rpc.{Rpc}
use Rattle.gs_base.specs.declared.mark.Mark.{Mark}
use Rattle.gs_base.specs.declared.mark.Mark.TheVariants as marks
use Rattle.gs_base.specs.Names.{same_id}
use Rattle.gs_base.specs.Rpcs.{passed_on}
use Rattle.gs_rules.specs.Peers.{Peer, windows}
use Rattle.gs_rules.specs.Tables.{Entries, Keeping, answered, kept}
use Rattle.gs_rules.specs.Rules.{answer, answers, times_in, with_message}
use Rattle.gs_rules.specs.FellAway.{why_no_answer, without_answer, without_answers}
use Rattle.gs_rules.specs.declared.fallen.Fallen.{Fallen}
use Rattle.gs_rules.specs.declared.fallen.Fallen.TheVariants as fallen
use Rattle.gs_router.specs.declared.entries.requests.Reply.{Reply}
use Rattle.gs_router.specs.Tables.{answers_left, left_of}
use Rattle.gs_router.specs.Offers.{left_now}
use Rattle.gs_router.specs.Requests.{Gives, Replies}

-- ---- one answer

-- by what is kept, how often it was answered, how often it stands ahead, and how many answers there are
abbrev answer_of : (most : ℕ) (k : Option Keeping) (given ahead : ℕ) → Option Message
answer_of most k given ahead = if nat_lt (given + ahead) most then option_map (λ (k : Keeping). k.message) k else None

no_answer : (most : ℕ) (k : Option Keeping) (given ahead : ℕ) → unwrap_or (left_of most k given) 0 - ahead ≡ 0 → answer_of most k given ahead ≡ None
no_answer most None given ahead spent = by (nat_lt (given + ahead) most)
  where
    by : (b : Bool) → ◌≡◌ {A = Option Message} (if b then None else None) None
    by true = refl
    by false = refl
no_answer most (Some k) given ahead spent =
    let over : nat_lt (given + ahead) most ≡ false = grind (arith, nat_tests) in
    ap (λ (b : Bool). if b then Some k.message else None) over

some_answer : (most : ℕ) (k : Option Keeping) (given ahead : ℕ) (m : Message) → option_map (λ (k : Keeping). k.message) k ≡ Some m → 0 < unwrap_or (left_of most k given) 0 - ahead → answer_of most k given ahead ≡ Some m
some_answer most None given ahead m is left = absurd (omega (arith, left))
some_answer most (Some k) given ahead m is left =
    let below : nat_lt (given + ahead) most ≡ true = grind (arith, nat_tests) in
    ap (λ (b : Bool). if b then Some k.message else None) below ∙ is

-- ---- how often an identifier stands ahead

abbrev one_if : Bool → ℕ
one_if b = if b then 1 else 0

times_one : (b : Bool) (x : MsgId) → length (cond b (x ∷ []) []) ≡ one_if b
times_one true x = refl
times_one false x = refl

times_more : (id x : MsgId) (ahead : List MsgId) → times_in id (ahead ++ x ∷ []) ≡ times_in id ahead + one_if (same_id id x)
times_more id x ahead =
    ap length (filter-append (same_id id) ahead (x ∷ []))
    ∙ length-append (filter (same_id id) ahead) (filter (same_id id) (x ∷ []))
    ∙ ap (λ (n : ℕ). times_in id ahead + n) (times_one (same_id id x) x)

same_identifier : (x id : MsgId) → same_id x id ≡ true → x ≡ id
same_identifier x id is = ap (λ (bytes : List ℕ). record { 0 = bytes }) ((bytes_eq-Decides x.0 id.0).0 is)

-- ---- one identifier of a request

module _ (p : Peer) (L : Entries) (q : PeerNo) (ahead : List MsgId) (given : List (MsgId × Message)) where
  abbrev pub at_first : MsgId → ℕ
  at_first id = answers_left p.params.timing.gossip_retransmission (windows p) L q id

  -- nothing is given for it
  pub gives_none : (x : MsgId) (reply : Reply) → at_first x - times_in x ahead ≡ 0
      → Replies p L q ahead given reply
      → Replies p L q (ahead ++ x ∷ []) (given ++ with_message x (answer p L q x (times_in x ahead))) reply
  gives_none x reply spent so_far =
      let none : answer p L q x (times_in x ahead) ≡ None = no_answer p.params.timing.gossip_retransmission (kept (windows p) L x) (answered L q x) (times_in x ahead) spent in
      let nothing : given ++ with_message x (answer p L q x (times_in x ahead)) ≡ given = ap (λ (o : Option Message). given ++ with_message x o) none ∙ append-nil given in
      record {
        gives = subst (λ (list : List (MsgId × Message)). Gives q list reply) (sym nothing) so_far.gives;
        leaves = λ id n is. so_far.leaves id n is ∙ by id n is (same_id id x) refl;
      }
    where
      by : (id : MsgId) (n : ℕ) → n ≡ at_first id → (b : Bool) → same_id id x ≡ b → n - times_in id ahead ≡ n - times_in id (ahead ++ x ∷ [])
      by id n is true same =
          let this : id ≡ x = same_identifier id x same in
          let none : n - times_in id ahead ≡ 0 = ap (λ (m : ℕ). m - times_in id ahead) is ∙ ap (λ (y : MsgId). at_first y - times_in y ahead) this ∙ spent in
          omega (arith, none, times_more id x ahead)
      by id n is false same = ap (λ (m : ℕ). n - m) (sym (times_more id x ahead ∙ ap (λ (b : Bool). times_in id ahead + one_if b) same ∙ omega arith))

  -- its message is given
  pub gives_one : (x : MsgId) (m : Message) (left : ℕ) (old new : Reply)
      → option_map (λ (k : Keeping). k.message) (kept (windows p) L x) ≡ Some m
      → left ≡ at_first x - times_in x ahead
      → 0 < left
      → new.sends ≡ old.sends ++ (q, passed_on m) ∷ []
      → new.marks ≡ old.marks ++ marks.Answered q x ∷ []
      → ((other : MsgId) (n : ℕ) → left_now new.left.entries other n ≡ (if same_id x other then left - 1 else left_now old.left.entries other n))
      → Replies p L q ahead given old
      → Replies p L q (ahead ++ x ∷ []) (given ++ with_message x (answer p L q x (times_in x ahead))) new
  gives_one x m left old new message is some sends marks_are leaves so_far =
      let found : answer p L q x (times_in x ahead) ≡ Some m = some_answer p.params.timing.gossip_retransmission (kept (windows p) L x) (answered L q x) (times_in x ahead) m message (omega (arith, some, is)) in
      let longer : given ++ with_message x (answer p L q x (times_in x ahead)) ≡ given ++ (x, m) ∷ [] = ap (λ (o : Option Message). given ++ with_message x o) found in
      record {
        gives = subst (λ (list : List (MsgId × Message)). Gives q list new) (sym longer) (record {
          sends = sends ∙ ap (λ (xs : List (PeerNo × Rpc)). xs ++ (q, passed_on m) ∷ []) so_far.gives.sends ∙ sym (map-append (λ (y : MsgId × Message). (q, passed_on y.1)) given ((x, m) ∷ []));
          marks = marks_are ∙ ap (λ (xs : List Mark). xs ++ marks.Answered q x ∷ []) so_far.gives.marks ∙ sym (map-append (λ (y : MsgId × Message). marks.Answered q y.0) given ((x, m) ∷ []));
        });
        leaves = λ id n at. leaves id n ∙ by id n at (same_id x id) refl;
      }
    where
      by : (id : MsgId) (n : ℕ) → n ≡ at_first id → (b : Bool) → same_id x id ≡ b → (if b then left - 1 else left_now old.left.entries id n) ≡ n - times_in id (ahead ++ x ∷ [])
      by id n at true same =
          let this : x ≡ id = same_identifier x id same in
          let less : left ≡ n - times_in id ahead = is ∙ ap (λ (y : MsgId). at_first y - times_in y ahead) this ∙ ap (λ (k : ℕ). k - times_in id ahead) (sym at) in
          let again : same_id id x ≡ true = nat_list_eq_equiv.symm id.0 x.0 ∙ same in
          let count : times_in id (ahead ++ x ∷ []) ≡ times_in id ahead + 1 = times_more id x ahead ∙ ap (λ (b : Bool). times_in id ahead + one_if b) again in
          omega (arith, less, count)
      by id n at false same =
          let apart : same_id id x ≡ false = nat_list_eq_equiv.symm id.0 x.0 ∙ same in
          let count : times_in id (ahead ++ x ∷ []) ≡ times_in id ahead + 0 = times_more id x ahead ∙ ap (λ (b : Bool). times_in id ahead + one_if b) apart in
          so_far.leaves id n at ∙ omega (arith, count)

-- ---- a whole request

-- Where these identifiers stand ahead and those are left, what is given so far leads to all answers.
pub record Replying (p : Peer) (L : Entries) (q : PeerNo) (all ahead left : List MsgId) (reply : Reply) : Type 0 where
  pub given : List (MsgId × Message)
  pub so_far : Replies p L q ahead given reply
  pub leads : given ++ answers p L q ahead left ≡ answers p L q [] all

pub begins : (p : Peer) (L : Entries) (q : PeerNo) (all : List MsgId) (reply : Reply) → reply.sends ≡ [] → reply.marks ≡ [] → reply.left.entries ≡ [] → Replying p L q all [] all reply
begins p L q all reply sends marks_are left = record {
  given = [];
  so_far = record {
    gives = record { sends = sends; marks = marks_are };
    leaves = λ id n at. ap (λ (spent : List (MsgId × ℕ)). left_now spent id n) left ∙ omega arith;
  };
  leads = refl;
}

pub goes_on : (p : Peer) (L : Entries) (q : PeerNo) (all ahead left : List MsgId) (x : MsgId) (old new : Reply)
    → ((given : List (MsgId × Message)) → Replies p L q ahead given old → Replies p L q (ahead ++ x ∷ []) (given ++ with_message x (answer p L q x (times_in x ahead))) new)
    → Replying p L q all ahead (x ∷ left) old → Replying p L q all (ahead ++ x ∷ []) left new
goes_on p L q all ahead left x old new step replying =
    let one = with_message x (answer p L q x (times_in x ahead)) in
    record {
      given = replying.given ++ one;
      so_far = step replying.given replying.so_far;
      leads = append_assoc replying.given one (answers p L q (ahead ++ x ∷ []) left) ∙ replying.leads;
    }

pub ends : (p : Peer) (L : Entries) (q : PeerNo) (all ahead left : List MsgId) (reply : Reply) → left ≡ [] → Replying p L q all ahead left reply → Gives q (answers p L q [] all) reply
ends p L q all ahead left reply none replying =
    let are : replying.given ≡ answers p L q [] all = sym (append-nil replying.given) ∙ ap (λ (ids : List MsgId). replying.given ++ answers p L q ahead ids) (sym none) ∙ replying.leads in
    subst (λ (list : List (MsgId × Message)). Gives q list reply) are replying.so_far.gives

-- ---- those without an answer

-- Where these identifiers stand ahead and those are left, what is missing so far leads to all that is missing.
pub record Missing (p : Peer) (L : Entries) (q : PeerNo) (all ahead left : List MsgId) (reply : Reply) (missing : List Fallen) : Type 0 where
  pub given : List (MsgId × Message)
  pub so_far : Replies p L q ahead given reply
  pub leads : missing ++ without_answers p L q ahead left ≡ without_answers p L q [] all

pub begins_missing : (p : Peer) (L : Entries) (q : PeerNo) (all : List MsgId) (reply : Reply) (missing : List Fallen) → reply.sends ≡ [] → reply.marks ≡ [] → reply.left.entries ≡ [] → missing ≡ [] → Missing p L q all [] all reply missing
begins_missing p L q all reply missing sends marks_are left none = record {
  given = [];
  so_far = record {
    gives = record { sends = sends; marks = marks_are };
    leaves = λ id n at. ap (λ (spent : List (MsgId × ℕ)). left_now spent id n) left ∙ omega arith;
  };
  leads = ap (λ (list : List Fallen). list ++ without_answers p L q [] all) none;
}

-- how many marks a reply has
marks_are_many : (q : PeerNo) (given : List (MsgId × Message)) (reply : Reply) → Gives q given reply → length reply.marks ≡ length given
marks_are_many q given reply gives = ap length gives.marks ∙ length-map given (λ (x : MsgId × Message). marks.Answered q x.0)

-- an identifier was answered where the reply has more marks than before
pub answered_by_count : (p : Peer) (L : Entries) (q : PeerNo) (ahead : List MsgId) (given : List (MsgId × Message)) (x : MsgId) (old new : Reply)
    → Replies p L q ahead given old
    → Replies p L q (ahead ++ x ∷ []) (given ++ with_message x (answer p L q x (times_in x ahead))) new
    → nat_lt (length old.marks) (length new.marks) ≡ is_some (answer p L q x (times_in x ahead))
answered_by_count p L q ahead given x old new before after =
    by (answer p L q x (times_in x ahead)) (marks_are_many q given old before.gives)
    (marks_are_many q (given ++ with_message x (answer p L q x (times_in x ahead))) new after.gives ∙ length-append given (with_message x (answer p L q x (times_in x ahead))))
  where
    by : (o : Option Message) → length old.marks ≡ length given → length new.marks ≡ length given + length (with_message x o) → nat_lt (length old.marks) (length new.marks) ≡ is_some o
    by None few many = grind (arith, nat_tests)
    by (Some m) few many = grind (arith, nat_tests)

-- one identifier more, which is answered
pub goes_on_answered : (p : Peer) (L : Entries) (q : PeerNo) (all ahead left : List MsgId) (x : MsgId) (old new : Reply) (missing : List Fallen)
    → ((given : List (MsgId × Message)) → Replies p L q ahead given old → Replies p L q (ahead ++ x ∷ []) (given ++ with_message x (answer p L q x (times_in x ahead))) new)
    → is_some (answer p L q x (times_in x ahead)) ≡ true
    → Missing p L q all ahead (x ∷ left) old missing → Missing p L q all (ahead ++ x ∷ []) left new missing
goes_on_answered p L q all ahead left x old new missing step some m = record {
  given = m.given ++ with_message x (answer p L q x (times_in x ahead));
  so_far = step m.given m.so_far;
  leads = ap (λ (list : List Fallen). missing ++ (list ++ without_answers p L q (ahead ++ x ∷ []) left)) (sym (nothing (answer p L q x (times_in x ahead)) some)) ∙ m.leads;
}
  where
    nothing : (o : Option Message) → is_some o ≡ true → without_answer q x (why_no_answer p L x) o ≡ []
    nothing None is = absurd cc
    nothing (Some y) is = refl

-- and one that is not
pub goes_on_missing : (p : Peer) (L : Entries) (q : PeerNo) (all ahead left : List MsgId) (x : MsgId) (old new : Reply) (missing longer : List Fallen)
    → ((given : List (MsgId × Message)) → Replies p L q ahead given old → Replies p L q (ahead ++ x ∷ []) (given ++ with_message x (answer p L q x (times_in x ahead))) new)
    → is_some (answer p L q x (times_in x ahead)) ≡ false
    → longer ≡ missing ++ fallen.Request q x (why_no_answer p L x) ∷ []
    → Missing p L q all ahead (x ∷ left) old missing → Missing p L q all (ahead ++ x ∷ []) left new longer
goes_on_missing p L q all ahead left x old new missing longer step some is m = record {
  given = m.given ++ with_message x (answer p L q x (times_in x ahead));
  so_far = step m.given m.so_far;
  leads =
      ap (λ (list : List Fallen). list ++ without_answers p L q (ahead ++ x ∷ []) left) (is ∙ ap (λ (list : List Fallen). missing ++ list) (sym (one (answer p L q x (times_in x ahead)) some)))
      ∙ append_assoc missing (without_answer q x (why_no_answer p L x) (answer p L q x (times_in x ahead))) (without_answers p L q (ahead ++ x ∷ []) left)
      ∙ m.leads;
}
  where
    one : (o : Option Message) → is_some o ≡ false → without_answer q x (why_no_answer p L x) o ≡ fallen.Request q x (why_no_answer p L x) ∷ []
    one None none = refl
    one (Some y) none = absurd cc

pub ends_missing : (p : Peer) (L : Entries) (q : PeerNo) (all ahead left : List MsgId) (reply : Reply) (missing : List Fallen) → left ≡ [] → Missing p L q all ahead left reply missing → missing ≡ without_answers p L q [] all
ends_missing p L q all ahead left reply missing none m =
    sym (append-nil missing) ∙ ap (λ (ids : List MsgId). missing ++ without_answers p L q ahead ids) (sym none) ∙ m.leads
