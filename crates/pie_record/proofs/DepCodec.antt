-- Observations and writes: what is read is what was written, and what was written is read again.
use Rattle.std.proofs.Common.{◌≡◌, ℕ, Bool, true, false, cond, List, [], ◌∷◌, ◌++◌, Ok, Err, refl, sym, ap, subst, ◌∙◌, inl, inr}
use Rattle.std.specs.Prelude.{IsTrue, Some, Option, ◌==◌}
use Rattle.std.proofs.lemmas.Bool.{eqb-true}
use Rattle.pie_value.specs.declared.stamp.Stamp.{Stamp}
use Rattle.pie_value.specs.declared.stamp.Stamp.TheVariants.{Absent, Present, Hash, Mark, Whole, Done}
use Rattle.pie_value.specs.Canonical.{counted}
use Rattle.pie_value.proofs.Taking.{IsBytes, Takes, Takes-then}
use Rattle.pie_record.specs.declared.dep.Dep.{Dep}
use Rattle.pie_record.specs.declared.dep.DepKind.{DepKind}
use Rattle.pie_record.specs.declared.dep.DepKind.TheVariants.{Exists, ReadHash, ReadMark, Digest, List as Listed, Require, RequireHash, Run}
use Rattle.pie_record.specs.declared.dep.DepOn.{DepOn}
use Rattle.pie_record.specs.declared.dep.DepOn.TheVariants.{File, Called}
use Rattle.pie_record.specs.declared.tag.Tag.{Tag}
use Rattle.pie_record.specs.declared.tag.Tag.TheVariants.{Absent as TagAbsent, Present as TagPresent, Hash as TagHash, Mark as TagMark}
use Rattle.pie_record.specs.declared.tag.Tag.TheVariants.{Whole as TagWhole, Done as TagDone}
use Rattle.pie_record.specs.declared.record_fault.RecordFault.TheVariants.{BadTag}
use Rattle.pie_record.specs.Kinds.{kind_byte, kind_of_byte, tag_byte, tag_of_byte, tag_of, calls, allows}
use Rattle.pie_record.specs.Canonical.{enc_on, contents, enc_stamp, enc_dep, enc_write, IsStorableOn, IsStorableStamp, IsStorableDep, IsStorableWrite}
use Rattle.pie_record.specs.Canonical.{IsTrueOn, IsTrueStamp, IsTrueDep, IsTrueWrite}
use Rattle.pie_record.specs.Reading.{Parsed, then_on, byte_at, bytes_at, out_path_at, known, kind_at, on_at}
use Rattle.pie_record.specs.Reading.{any_tag_at, tag_at, stamped, dep_at, write_at}
use Rattle.pie_record.proofs.Steps.{pair, same_value, same_rest, then_ok, guard_ok, guard_on, known_ok, choice, Codec, step, last, last_ok}
use Rattle.pie_record.proofs.Codecs.{byte_codec, bytes_codec, mark_codec, path_codec, out_path_codec, task_codec, value_codec}

-- ---- kinds

kind_step : (b n : ℕ) (t u : DepKind) (o : Option DepKind) → kind_byte t ≡ n → (o ≡ Some u → b ≡ kind_byte u)
    → cond (b == n) (Some t) o ≡ Some u → b ≡ kind_byte u
kind_step b n t u o h k e =
    elim (choice (b == n) t o u e) [ inl p ↦ eqb-true b n p.0 ∙ sym h ∙ ap kind_byte p.1 | inr q ↦ k q ]

kind_is : (b : ℕ) (u : DepKind) → kind_of_byte b ≡ Some u → b ≡ kind_byte u
kind_is b u =
    kind_step b 1 Exists u _ refl (kind_step b 2 ReadHash u _ refl (kind_step b 3 ReadMark u _ refl (kind_step b 4 Digest u _ refl
    (kind_step b 5 Listed u _ refl (kind_step b 6 Require u _ refl (kind_step b 7 RequireHash u _ refl (kind_step b 8 Run u _ refl
    (λ e. absurd (cc)))))))))

kind_taken : (bs : List ℕ) (k : DepKind) (rest : List ℕ) → IsBytes bs → kind_at bs ≡ Ok (k, rest) → Takes bs (kind_byte k ∷ []) rest × Unit {0}
kind_taken bs k rest fits e =
    let h = then_ok (byte_at bs) (λ b after. known (kind_of_byte b) after) k rest e in
    let o = known_ok (kind_of_byte h.0) h.1 k rest h.3 in
    let p = byte_codec.taken bs h.0 h.1 fits h.2 in
    (subst (λ (b : ℕ). Takes bs (b ∷ []) rest) (kind_is h.0 k o.0) (subst (Takes bs (h.0 ∷ [])) o.1 p.0), tt)

kind_again : (k : DepKind) (rest : List ℕ) → kind_at ((kind_byte k ∷ []) ++ rest) ≡ Ok (k, rest)
kind_again Exists rest = refl
kind_again ReadHash rest = refl
kind_again ReadMark rest = refl
kind_again Digest rest = refl
kind_again Listed rest = refl
kind_again Require rest = refl
kind_again RequireHash rest = refl
kind_again Run rest = refl

pub kind_codec : Codec kind_at (λ k. kind_byte k ∷ []) (λ k. Unit {0})
kind_codec = record { taken = kind_taken; again = λ k rest h. kind_again k rest }

-- ---- what was observed

abbrev is_call : DepOn → Bool
is_call (File path) = false
is_call (Called task) = true

abbrev FitsOn : Bool → DepOn → Type 0
FitsOn call w = IsStorableOn w × IsTrueOn w × (is_call w ≡ call)

on_taken : (call : Bool) (bs : List ℕ) (w : DepOn) (rest : List ℕ) → IsBytes bs → on_at call bs ≡ Ok (w, rest) → Takes bs (enc_on w) rest × FitsOn call w
on_taken true bs w rest fits e =
    let h = last_ok task_codec Called bs w rest fits e in
    subst (λ (x : DepOn). Takes bs (enc_on x) rest × FitsOn true x) h.1 (h.2, (h.3.0, h.3.1, refl))
on_taken false bs w rest fits e =
    let h = last_ok path_codec File bs w rest fits e in
    subst (λ (x : DepOn). Takes bs (enc_on x) rest × FitsOn false x) h.1 (h.2, (tt, h.3, refl))

on_again : (call : Bool) (w : DepOn) (rest : List ℕ) → FitsOn call w → on_at call (enc_on w ++ rest) ≡ Ok (w, rest)
on_again true (File path) rest h = absurd (cc (h.2))
on_again true (Called task) rest h = last task_codec Called task rest (h.0, h.1)
on_again false (File path) rest h = last path_codec File path rest h.1
on_again false (Called task) rest h = absurd (cc (h.2))

pub on_codec : (call : Bool) → Codec (on_at call) enc_on (FitsOn call)
on_codec call = record { taken = on_taken call; again = on_again call }

-- ---- tags

tag_step : (b n : ℕ) (t u : Tag) (o : Option Tag) → tag_byte t ≡ n → (o ≡ Some u → b ≡ tag_byte u)
    → cond (b == n) (Some t) o ≡ Some u → b ≡ tag_byte u
tag_step b n t u o h k e =
    elim (choice (b == n) t o u e) [ inl p ↦ eqb-true b n p.0 ∙ sym h ∙ ap tag_byte p.1 | inr q ↦ k q ]

tag_is : (b : ℕ) (u : Tag) → tag_of_byte b ≡ Some u → b ≡ tag_byte u
tag_is b u =
    tag_step b 0 TagAbsent u _ refl (tag_step b 1 TagPresent u _ refl (tag_step b 2 TagHash u _ refl (tag_step b 3 TagMark u _ refl
    (tag_step b 4 TagWhole u _ refl (tag_step b 5 TagDone u _ refl (λ e. absurd (cc)))))))

any_tag_taken : (bs : List ℕ) (t : Tag) (rest : List ℕ) → IsBytes bs → any_tag_at bs ≡ Ok (t, rest) → Takes bs (tag_byte t ∷ []) rest
any_tag_taken bs t rest fits e =
    let h = then_ok (byte_at bs) (λ b after. known (tag_of_byte b) after) t rest e in
    let o = known_ok (tag_of_byte h.0) h.1 t rest h.3 in
    let p = byte_codec.taken bs h.0 h.1 fits h.2 in
    subst (λ (b : ℕ). Takes bs (b ∷ []) rest) (tag_is h.0 t o.0) (subst (Takes bs (h.0 ∷ [])) o.1 p.0)

any_tag_again : (t : Tag) (rest : List ℕ) → any_tag_at ((tag_byte t ∷ []) ++ rest) ≡ Ok (t, rest)
any_tag_again TagAbsent rest = refl
any_tag_again TagPresent rest = refl
any_tag_again TagHash rest = refl
any_tag_again TagMark rest = refl
any_tag_again TagWhole rest = refl
any_tag_again TagDone rest = refl

tag_taken : (k : DepKind) (w : DepOn) (bs : List ℕ) (t : Tag) (rest : List ℕ) → IsBytes bs → tag_at k w bs ≡ Ok (t, rest)
    → Takes bs (tag_byte t ∷ []) rest × IsTrue (allows k w t)
tag_taken k w bs t rest fits e =
    let h = then_ok (any_tag_at bs) (λ x after. cond (allows k w x) (Ok (x, after)) (Err BadTag)) t rest e in
    let g = guard_ok (allows k w h.0) h.0 h.1 BadTag t rest h.3 in
    let p = any_tag_taken bs h.0 h.1 fits h.2 in (
      subst (λ (x : Tag). Takes bs (tag_byte x ∷ []) rest) g.1 (subst (Takes bs (tag_byte h.0 ∷ [])) g.2 p),
      subst (λ (x : Tag). IsTrue (allows k w x)) g.1 g.0,
    )

pub tag_codec : (k : DepKind) (w : DepOn) → Codec (tag_at k w) (λ t. tag_byte t ∷ []) (λ t. IsTrue (allows k w t))
tag_codec k w = record {
  taken = tag_taken k w;
  again = λ t rest h.
      ap (λ (p : Parsed Tag). then_on p (λ x after. cond (allows k w x) (pair x after) (Err BadTag))) (any_tag_again t rest)
      ∙ guard_on (allows k w t) t rest BadTag h;
}

-- ---- what follows the tag

abbrev FitsStamp : Tag → Stamp → Type 0
FitsStamp t s = IsStorableStamp s × IsTrueStamp s × (tag_of s ≡ t)

-- a stamp that was read at once
bare : (t : Tag) (x s : Stamp) (bs rest : List ℕ) → IsBytes bs → contents x ≡ [] → FitsStamp t x → pair x bs ≡ Ok (s, rest)
    → Takes bs (contents s) rest × FitsStamp t s
bare t x s bs rest fits none h e =
    let r : bs ≡ rest = same_rest x s bs rest e in
    subst (λ (y : Stamp). Takes bs (contents y) rest × FitsStamp t y) (same_value x s bs rest e)
    (record { parts = r ∙ ap (λ (y : List ℕ). y ++ rest) (sym none); rest_fits = subst IsBytes r fits }, h)

stamp_taken : (t : Tag) (bs : List ℕ) (s : Stamp) (rest : List ℕ) → IsBytes bs → stamped t bs ≡ Ok (s, rest) → Takes bs (contents s) rest × FitsStamp t s
stamp_taken TagAbsent bs s rest fits e = bare TagAbsent Absent s bs rest fits refl (tt, tt, refl) e
stamp_taken TagPresent bs s rest fits e = bare TagPresent Present s bs rest fits refl (tt, tt, refl) e
stamp_taken TagHash bs s rest fits e =
    let h = last_ok (bytes_codec 32) Hash bs s rest fits e in
    subst (λ (y : Stamp). Takes bs (contents y) rest × FitsStamp TagHash y) h.1 (h.2, (tt, h.3, refl))
stamp_taken TagMark bs s rest fits e =
    let h = last_ok mark_codec Mark bs s rest fits e in
    subst (λ (y : Stamp). Takes bs (contents y) rest × FitsStamp TagMark y) h.1 (h.2, (tt, h.3, refl))
stamp_taken TagWhole bs s rest fits e =
    let h = last_ok value_codec Whole bs s rest fits e in
    subst (λ (y : Stamp). Takes bs (contents y) rest × FitsStamp TagWhole y) h.1 (h.2, (h.3.0, h.3.1, refl))
stamp_taken TagDone bs s rest fits e = bare TagDone Done s bs rest fits refl (tt, tt, refl) e

stamp_again : (s : Stamp) (rest : List ℕ) → IsStorableStamp s → IsTrueStamp s → stamped (tag_of s) (contents s ++ rest) ≡ Ok (s, rest)
stamp_again Absent rest h k = refl
stamp_again Present rest h k = refl
stamp_again (Hash hash) rest h k = last (bytes_codec 32) Hash hash rest k
stamp_again (Mark mark) rest h k = last mark_codec Mark mark rest k
stamp_again (Whole value) rest h k = last value_codec Whole value rest (h, k)
stamp_again Done rest h k = refl

pub stamp_codec : (t : Tag) → Codec (stamped t) contents (FitsStamp t)
stamp_codec t = record {
  taken = stamp_taken t;
  again = λ s rest h. subst (λ (x : Tag). stamped x (contents s ++ rest) ≡ Ok (s, rest)) h.2 (stamp_again s rest h.0 h.1);
}

-- ---- observations

-- a kind allows a stamp only of a thing of its own sort
call_is : (k : DepKind) (w : DepOn) (t : Tag) → IsTrue (allows k w t) → is_call w ≡ calls k
call_is Exists (File path) t h = refl
call_is ReadHash (File path) t h = refl
call_is ReadMark (File path) t h = refl
call_is Digest (File path) t h = refl
call_is Listed (File path) t h = refl
call_is Require (Called task) t h = refl
call_is RequireHash (Called task) t h = refl
call_is Run (Called task) t h = refl
call_is k w t h = absurd (cc)

abbrev pub FitsDep : Dep → Type 0
FitsDep d = IsStorableDep d × IsTrueDep d

abbrev made : DepKind → DepOn → Stamp → Dep
made k w s = record { kind = k; what = w; stamp = s }

abbrev after_tag : DepKind → DepOn → Tag → List ℕ → Parsed Dep
after_tag k w t bs = then_on (stamped t bs) (λ s rest. pair (made k w s) rest)

abbrev after_what : DepKind → DepOn → List ℕ → Parsed Dep
after_what k w bs = then_on (tag_at k w bs) (after_tag k w)

abbrev after_kind : DepKind → List ℕ → Parsed Dep
after_kind k bs = then_on (on_at (calls k) bs) (after_what k)

dep_taken : (bs : List ℕ) (d : Dep) (rest : List ℕ) → IsBytes bs → dep_at bs ≡ Ok (d, rest) → Takes bs (enc_dep d) rest × FitsDep d
unfolding dep_at enc_dep
dep_taken bs d rest fits e =
    let h = then_ok (kind_at bs) after_kind d rest e in
    let p = kind_codec.taken bs h.0 h.1 fits h.2 in
    let i = then_ok (on_at (calls h.0) h.1) (after_what h.0) d rest h.3 in
    let q = (on_codec (calls h.0)).taken h.1 i.0 i.1 p.0.rest_fits i.2 in
    let j = then_ok (tag_at h.0 i.0 i.1) (after_tag h.0 i.0) d rest i.3 in
    let r = (tag_codec h.0 i.0).taken i.1 j.0 j.1 q.0.rest_fits j.2 in
    let l = last_ok (stamp_codec j.0) (made h.0 i.0) j.1 d rest r.0.rest_fits j.3 in
    let u : Dep = made h.0 i.0 l.0 in
    let tag : Takes i.1 (enc_stamp l.0) rest =
    subst (λ (t : Tag). Takes i.1 (tag_byte t ∷ contents l.0) rest) (sym l.3.2) (Takes-then i.1 (tag_byte j.0 ∷ []) j.1 (contents l.0) rest r.0 l.2) in
    let takes : Takes bs (enc_dep u) rest =
    Takes-then bs (kind_byte h.0 ∷ []) h.1 (enc_on i.0 ++ enc_stamp l.0) rest p.0 (Takes-then h.1 (enc_on i.0) i.1 (enc_stamp l.0) rest q.0 tag) in
    let fit : FitsDep u = (
      record { allowed = subst (λ (t : Tag). IsTrue (allows h.0 i.0 t)) (sym l.3.2) r.1; what = q.1.0; stamp = l.3.0 },
      (q.1.1, l.3.1),
    ) in
    subst (λ (x : Dep). Takes bs (enc_dep x) rest × FitsDep x) l.1 (takes, fit)

dep_again : (d : Dep) (rest : List ℕ) → FitsDep d → dep_at (enc_dep d ++ rest) ≡ Ok (d, rest)
unfolding dep_at enc_dep
dep_again d rest h =
    step kind_codec after_kind d.kind (enc_on d.what ++ enc_stamp d.stamp) rest d tt
    (step (on_codec (calls d.kind)) (after_what d.kind) d.what (enc_stamp d.stamp) rest d
    (h.0.what, h.1.0, call_is d.kind d.what (tag_of d.stamp) h.0.allowed)
    (step (tag_codec d.kind d.what) (after_tag d.kind d.what) (tag_of d.stamp) (contents d.stamp) rest d h.0.allowed
    (last (stamp_codec (tag_of d.stamp)) (made d.kind d.what) d.stamp rest (h.0.stamp, h.1.1, refl))))

pub dep_codec : Codec dep_at enc_dep FitsDep
dep_codec = record { taken = dep_taken; again = dep_again }

-- ---- writes

abbrev pub FitsWrite : List ℕ × List ℕ → Type 0
FitsWrite w = IsStorableWrite w × IsTrueWrite w

abbrev after_path : List ℕ → List ℕ → Parsed (List ℕ × List ℕ)
after_path path bs = then_on (bytes_at 32 bs) (λ hash rest. pair (path, hash) rest)

write_taken : (bs : List ℕ) (w : List ℕ × List ℕ) (rest : List ℕ) → IsBytes bs → write_at bs ≡ Ok (w, rest) → Takes bs (enc_write w) rest × FitsWrite w
unfolding write_at enc_write
write_taken bs w rest fits e =
    let h = then_ok (out_path_at bs) after_path w rest e in
    let p = out_path_codec.taken bs h.0 h.1 fits h.2 in
    let l = last_ok (bytes_codec 32) (λ (x : List ℕ). (h.0, x)) h.1 w rest p.0.rest_fits h.3 in
    subst (λ (x : List ℕ × List ℕ). Takes bs (counted x.0 ++ x.1) rest × FitsWrite x) l.1
    (Takes-then bs (counted h.0) h.1 l.0 rest p.0 l.2, (p.1.1, (p.1.0, l.3)))

write_again : (w : List ℕ × List ℕ) (rest : List ℕ) → FitsWrite w → write_at (enc_write w ++ rest) ≡ Ok (w, rest)
unfolding write_at enc_write
write_again w rest h =
    step out_path_codec after_path w.0 w.1 rest w (h.1.0, h.0) (last (bytes_codec 32) (λ (x : List ℕ). (w.0, x)) w.1 rest h.1.1)

pub write_codec : Codec write_at enc_write FitsWrite
write_codec = record { taken = write_taken; again = write_again }
