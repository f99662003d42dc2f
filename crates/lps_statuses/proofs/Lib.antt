mod Continuations
mod RuleLaws
mod Statuses
