-- A line of the shell's own, as the code has it.
use Rattle.fl_shell.specs.Own.{Own, Echo, First, Last, Describe, Misformed}
use Rattle.fl_shell.specs.declared.own.Own as code

abbrev pub own_view : code.Own → Own
own_view (code.TheVariants.Echo word) = Echo word.now
own_view (code.TheVariants.First name) = First name
own_view (code.TheVariants.Last name) = Last name
own_view code.TheVariants.Describe = Describe
own_view (code.TheVariants.Misformed form) = Misformed
