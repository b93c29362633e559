mod Adding
mod FaultLines
mod GivingUp
mod Naming
